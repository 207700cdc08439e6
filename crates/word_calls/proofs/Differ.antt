-- A test of all lists beside the starts is the tests of each, joined: of words, and of spans. Assumes nothing.
use Rattle.std.proofs.Common.{◌≡◌, ℕ, [], ◌∷◌}
use Rattle.std.proofs.Math.Bool.{or-false}
use Rattle.limits.specs.Limits.{any, differ}
use Rattle.word_calls.specs.Calls.{uneven, uneven_spans}

pub uneven-is : (starts ends letters units keys : ℕ) → any (λ (n : ℕ). differ n starts) (ends ∷ letters ∷ units ∷ keys ∷ []) ≡ uneven starts ends letters units keys
unfolding any uneven
uneven-is starts ends letters units keys = rw (or-false (differ keys starts))

pub uneven_spans-is : (starts ends counts : ℕ) → any (λ (n : ℕ). differ n starts) (ends ∷ counts ∷ []) ≡ uneven_spans starts ends counts
unfolding any uneven_spans
uneven_spans-is starts ends counts = rw (or-false (differ counts starts))
