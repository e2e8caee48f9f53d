-- A polynomial is loaded and put in each turn. All is said of the records that there were at entry.
use Rattle.std.proofs.Common.{refl, sym, ◌∙◌, [], take, arith}
use Rattle.std.proofs.lemmas.Result.{err_from_is_err_and}
use lib.Seq.{length-take-le}
use Rattle.tables.specs.laws.Linked.{chain_next, chain_less}
use Rattle.tables.specs.laws.Accepted.{some_record, readable_numbers}
use Rattle.representation.specs.laws.Sounds.{sound_storable}
use Rattle.loading.proofs.FillLaws.{put_first, loaded_next, put_end, put_fails, put_next}
use Rattle.loading.proofs.put_heads.Goals as goal

pub loop-i-init : goal.loop-i-init
loop-i-init c = record { puts = λ fs b e x. put_first (some_record c.args.table.readable) e x; stays = refl }

pub load_monic-m-requires-clause-inside : goal.load_monic-m-requires-clause-inside
load_monic-m-requires-clause-inside c =
    let here = c.loop-i.invariant.puts _ _ c.requires.are_read.1 c.requires.alone.1 in (chain_next here.chain c.loop-i-test.true).inside

pub load_monic-m-requires-clause-is_read : goal.load_monic-m-requires-clause-is_read
load_monic-m-requires-clause-is_read c =
    let here = c.loop-i.invariant.puts _ _ c.requires.are_read.1 c.requires.alone.1 in
    let h = chain_next here.chain c.loop-i-test.true in (h.member, h.is_read)

pub slice_bounds-put-end : goal.slice_bounds-put-end
slice_bounds-put-end c =
    let here = c.loop-i.invariant.puts _ _ c.requires.are_read.1 c.requires.alone.1 in
    (loaded_next here c.loop-i-test.true c.load_monic-m.ensures).within

pub slice_bounds-put-end-in-loop-i : goal.slice_bounds-put-end-in-loop-i
slice_bounds-put-end-in-loop-i c =
    let here = c.loop-i.invariant.puts _ _ c.requires.are_read.1 c.requires.alone.1 in
    let m = c.load_monic-m in
    sym (length-take-le m.result m.new.out (loaded_next here c.loop-i-test.true m.ensures).within)

pub put-requires-clause-opened : goal.put-requires-clause-opened
put-requires-clause-opened c =
    let x = (c.loop-i.invariant.puts _ _ c.requires.are_read.1 c.requires.alone.1).alone in (x.stored, [], [], rw c.loop-i.auto.work x.held)

pub put-requires-clause-storable : goal.put-requires-clause-storable
put-requires-clause-storable c =
    let here = c.loop-i.invariant.puts _ _ c.requires.are_read.1 c.requires.alone.1 in
    let m = c.load_monic-m in
    sound_storable c.args.table.modulus (omega (arith, (readable_numbers _ _ _ c.args.table.readable).below)) (take m.result m.new.out)
    (loaded_next here c.loop-i-test.true m.ensures).sound

pub returns-in_err-put : goal.returns-in_err-put
returns-in_err-put c = record {
  filled = λ fs b e x.
      let p = err_from_is_err_and c.from_residual.result c.from_residual.ensures.1 in
      rw (p.1, p.2)
      (put_fails (c.loop-i.invariant.puts fs b e x) c.loop-i-test.true c.load_monic-m.ensures (rw c.loop-i.auto.work at c.in_err-put.ensures.when_open) refl);
  beyond_stays = c.put.ensures.beyond_stays ∙ c.loop-i.invariant.stays;
}

pub word-i-requires : goal.word-i-requires
word-i-requires c =
    let here = c.loop-i.invariant.puts _ _ c.requires.are_read.1 c.requires.alone.1 in
    ((chain_next here.chain c.loop-i-test.true).inside, omega arith)

pub loop-i-smaller : goal.loop-i-smaller
loop-i-smaller c =
    let here = c.loop-i.invariant.puts _ _ c.requires.are_read.1 c.requires.alone.1 in
    rw c.word-i.ensures (chain_less here.chain c.loop-i-test.true)

pub loop-i-preserved : goal.loop-i-preserved
loop-i-preserved c = record {
  puts = λ fs b e x.
      rw c.word-i.ensures
      (put_next (c.loop-i.invariant.puts fs b e x) c.loop-i-test.true c.load_monic-m.ensures (rw c.loop-i.auto.work at c.in_ok-put.ensures.when_open) refl);
  stays = c.put.ensures.beyond_stays ∙ c.loop-i.invariant.stays;
}

pub returns : goal.returns
returns c = record { filled = λ fs b e x. put_end (c.loop-i.invariant.puts fs b e x) c.loop-i-test.false; beyond_stays = c.loop-i.invariant.stays }
