use Rattle.std.proofs.Common.{◌≡◌, ◌<◌, ◌^◌, drop}
use Rattle.vector_rows.specs.Numbers.{number_after, number_of}
use Rattle.vector_rows.proofs.numbers.number.Given as goal

abbrev pub invariant-loop-c : goal.invariant-loop-c
invariant-loop-c l = record {
  fits : l.number < 16 ^ l.c-index;
  rest : number_of l.text ≡ number_after l.number (drop l.c-index l.text);
}
