-- How rows are counted.
use Rattle.std.specs.Prelude.{ℕ, ◌+◌, ◌-◌, ◌^◌, min, Bool, cond}
use Rattle.vector_rows.specs.declared.rows.Counts.{Counts}

-- one more, up to the largest number that fits
abbrev one_more : ℕ → ℕ
one_more n = min (n + 1) (2 ^ 64 - 1)

-- the counts with one row more
abbrev pub counted : Bool → Counts → Counts
counted right counts = record {
  compared = one_more counts.compared;
  wrong = cond right counts.wrong (one_more counts.wrong);
}
