-- What the program's promise says of an input, in plain words: the text is what document 01 prints for every input of which this came, and that ends there where
-- `ended` says so. That a file or standard input brings its bytes in order, and says that there are no more only at the end, is the hypothesis, for no contract says it; of a
-- reader whose bytes are known only the second is. Assumes nothing.
use Prim.Native.Nat.{ℕ, ◌≤◌}
use mathlib.Core.Bool.{Bool, true, false}
use mathlib.Core.List.{List, ◌++◌}
use mathlib.Core.Path.{◌≡◌, refl, sym, ap, ◌∙◌, subst}
use native.Mathlib.Omega.{arith}
use borrow.Author.Tests.{ltb-false}
use lib.Dec.{ltb}
use lib.ListN.{length, take, drop, take-append-drop}
use lib.Seq.{take_all, take-take, take_at}
use lib.Ieee.{Float}
use Rattle.std.specs.Prelude.{Option, Some, None}
use Rattle.std.proofs.Math.Seq.{take-append_seam}
use Rattle.job_layout.specs.Layout.{contents}
use Rattle.job.specs.Printed.{printed}
use Rattle.job.specs.Came.{Came, wanted, body_size}
use Rattle.job.proofs.Files.{contents-front}
use Rattle.job.proofs.Front.{wanted-table, front-printed}
use Rattle.job_io.specs.Answers.{Answers, Taken}

module _ (came : ℕ) (ended : Bool) (t bodies buffer : List ℕ) (ls : List Float) (text : List ℕ) (long : length t ≡ 24) (h : Answers came ended t bodies buffer ls text) where
  -- ---- The text of an input. Its first bytes came: they are the table, words and spans as they stand, and samples of these levels. And where `ended` says that there are no
  -- more, it ends there.
  pub answers-input : (input : List ℕ) → Came came t bodies ls (take came input) → (ended ≡ true → length input ≤ came) → text ≡ printed input
  answers-input input begins ends = h.prints (take came input) begins ∙ go (ltb came (wanted (contents t))) refl
    where
      go : (short : Bool) → ltb came (wanted (contents t)) ≡ short → printed (take came input) ≡ printed input
      go true e = ap printed (take_all came input (ends (h.received.ended_is ∙ e)))
      go false e =
          let all : came ≡ wanted (contents t) = (let a = h.received.asked in let b = ltb-false came (wanted (contents t)) e in omega (arith, a, b)) in
          rw (all, ← same) (front-printed input)
        where
          table : 24 ≤ came
          table = let b = ltb-false came (wanted (contents t)) e in let w = wanted-table (contents t) in omega (arith, b, w)

          first : take 24 input ≡ t
          first =
              sym (take-take 24 came input table)
              ∙ ap (take 24) begins.file-is
              ∙ take-take 24 came (t ++ (take (body_size (contents t)) bodies ++ (begins.samples ++ begins.more))) table
              ∙ take_at t (take (body_size (contents t)) bodies ++ (begins.samples ++ begins.more)) 24 long

          same : contents input ≡ contents t
          same = ap contents (sym (take-append-drop 24 input) ∙ ap (λ (x : List ℕ). x ++ drop 24 input) first) ∙ contents-front t long (drop 24 input)

  -- ---- The text of a reader whose bytes are known, where `ended` says only at their end that there are no more.
  pub answers-reader : (input : List ℕ) (new : Option (List ℕ)) → Taken (Some input) new came t bodies ls → (ended ≡ true → length input ≤ came) → text ≡ printed input
  answers-reader input None takes ends = absurd takes.taken
  answers-reader input (Some rest) takes ends = answers-input input (subst (Came came t bodies ls) (sym front) takes.parts) ends
    where
      front : take came input ≡ takes.file
      front = ap (take came) takes.taken ∙ ap (λ (n : ℕ). take n (takes.file ++ rest)) (sym takes.parts.long) ∙ take-append_seam takes.file rest
