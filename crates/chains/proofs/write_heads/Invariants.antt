-- The rest of the heads written from here is all of them written at the start.
use Rattle.std.proofs.Common.{◌≡◌, ◌+◌, ◌*◌, ◌-◌, map, length}
use Rattle.polynomials.specs.Packed.{terms}
use Rattle.rules.specs.Written.{heads_words}
use Rattle.records.specs.Records.{view}
use Rattle.stored.specs.Stored.{skip_to, polys_at}
use Rattle.chains.proofs.Over.{over}
use Rattle.chains.proofs.write_heads.Given as goal

abbrev pub invariant-loop-j : goal.invariant-loop-j
invariant-loop-j l =
    let a = l.fn in
    let v = view a.w in
    let left = a.k - l.j in
    record {
      same : length l.out ≡ length a.out;
      along : l.at + a.from ≡ a.to + l.i;
      ends : skip_to v l.i left ≡ skip_to v a.from a.k;
      whole : over l.out (4 * l.at) (heads_words l.at (map terms (polys_at v l.i left))) ≡ over a.out (4 * a.to) (heads_words a.to (map terms (polys_at v a.from a.k)));
    }
