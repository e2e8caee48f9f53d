-- The words put so far are the first, and those behind the last stay.
use Rattle.std.proofs.Common.{◌≡◌, take, drop}
use Rattle.decoding.specs.Words.{words_from}
use Rattle.decoding.proofs.decode.Given as goal

abbrev pub invariant-loop-i : goal.invariant-loop-i
invariant-loop-i l = record {
  decoded : take l.i l.words ≡ words_from l.bytes 0 l.i;
  others : drop l.n l.words ≡ drop l.n l.initial.words;
}
