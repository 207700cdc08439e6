-- An i64 compared with another: as ℤ compares them. Assumes nothing.
use Rattle.std.proofs.Common.{◌≡◌, ◌^◌, ◌<◌, Bool, ℤ, w64, to_z, of_z}
use lib.Signed.{mag, lt_z}
use Rattle.frames.proofs.Signed.{read_back}

pub less-back : (a b : ℤ) → mag a < 2 ^ 63 → mag b < 2 ^ 63 → {t : Bool} → lt_z (to_z w64 (of_z w64 a)) (to_z w64 (of_z w64 b)) ≡ t → lt_z a b ≡ t
less-back a b h k t = rw (read_back a h, read_back b k) at t
