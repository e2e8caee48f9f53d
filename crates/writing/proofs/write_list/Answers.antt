-- In a turn a system lies at i; that of the contract's own systems bounds what is read and written.
use Rattle.std.proofs.Common.{rules, arith, map, reverse}
use Rattle.representation.specs.Represent.{system_of}
use Rattle.branches.proofs.ControlLaws.{top_inside, count_is}
use Rattle.writing.proofs.Systems.{found}
use Rattle.writing.proofs.Walk.{list_some, begins, turn, finished, list_written}
use Rattle.writing.proofs.write_list.Goals as goal

pub write-requires : goal.write-requires
write-requires c =
    let h = c.requires.held_in in
    omega (arith, (c.requires.ss_in_bounds h.0 h.1).0, list_some (reverse (map system_of h.0)))

pub overflow_sub-end : goal.overflow_sub-end
overflow_sub-end c = let h = c.requires.held_in in omega (arith, top_inside h.1 (c.listed_systems-top.ensures _ h.1), c.count_records.ensures)

pub loop-i-init : goal.loop-i-init
loop-i-init c = record {
  same = omega arith;
  walked = λ ss H. let asked = c.requires.ss_in_bounds ss H in
      rw c.count_records.ensures (begins _ _ ss c.write.new.words _ _ _ H asked.1 (omega arith) (omega arith) (c.listed_systems-top.ensures _ H));
}

pub system_size-size-requires : goal.system_size-size-requires
system_size-size-requires c =
    let h = c.requires.held_in in
    let t = turn (c.loop-i.invariant.walked h.0 h.1) (omega arith) in (t.s, t.stored)

pub overflow_sub-at : goal.overflow_sub-at
overflow_sub-at c =
    let h = c.requires.held_in in
    let t = turn (c.loop-i.invariant.walked h.0 h.1) (omega arith) in
    omega (arith, t.enough, c.system_size-size.ensures t.s t.stored)

pub write_system-requires : goal.write_system-requires
write_system-requires c =
    let h = c.requires.held_in in
    let t = turn (c.loop-i.invariant.walked h.0 h.1) (omega arith) in
    let is = c.system_size-size.ensures t.s t.stored in
    (t.s, t.stored, omega (arith, t.enough, t.fits), omega (arith, t.enough, t.low))

pub overflow_cast-next : goal.overflow_cast-next
overflow_cast-next c =
    let h = c.requires.held_in in
    let t = turn (c.loop-i.invariant.walked h.0 h.1) (omega arith) in omega (arith, t.low)

pub overflow_add-i : goal.overflow_add-i
overflow_add-i c =
    let h = c.requires.held_in in
    let t = turn (c.loop-i.invariant.walked h.0 h.1) (omega arith) in
    omega (arith, c.system_size-size.ensures t.s t.stored, (found c.args.w.now c.loop-i.i t.s t.stored).inside)

pub loop-i-preserved : goal.loop-i-preserved
loop-i-preserved c = record {
  same = omega arith;
  walked = λ ss H. let t = turn (c.loop-i.invariant.walked ss H) (omega arith) in
      t.again _ _ _ _ (c.system_size-size.ensures t.s t.stored) (omega arith) (omega arith) (c.write_system.ensures t.s t.stored);
}

pub returns : goal.returns
returns c ss H =
    let a = c.args in
    let told = c.listed_systems-top.ensures _ H in
    list_written ss a.p a.n c.if-count-eq0.first c.listed_systems-top.result.count a.out.now c.write.new.words c.loop-i.out
    c.write.ensures (c.requires.ss_in_bounds ss H).0 (count_is H told)
    (λ z. search rules) (λ z. search rules) (finished (c.loop-i.invariant.walked ss H) (omega arith))
