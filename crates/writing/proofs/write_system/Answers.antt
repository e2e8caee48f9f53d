-- The system's record, its T heads, its U heads. No answer names a test, so that an edit of one is refused for what it means.
use Rattle.std.proofs.Common.{rules, arith}
use Rattle.writing.proofs.Systems.{found, system_written}
use Rattle.writing.proofs.write_system.Goals as goal

pub skip-from_t-requires : goal.skip-from_t-requires
skip-from_t-requires c = let f = found c.args.w.now c.args.i c.requires.0 c.requires.1 in grind arith

pub skip-end-requires : goal.skip-end-requires
skip-end-requires c = let f = found c.args.w.now c.args.i c.requires.0 c.requires.1 in grind arith

pub overflow_sub-to_u : goal.overflow_sub-to_u
overflow_sub-to_u c = let f = found c.args.w.now c.args.i c.requires.0 c.requires.1 in grind arith

pub overflow_add-to_u-2 : goal.overflow_add-to_u-2
overflow_add-to_u-2 c = let f = found c.args.w.now c.args.i c.requires.0 c.requires.1 in grind arith

pub overflow_cast-first_u : goal.overflow_cast-first_u
overflow_cast-first_u c = let f = found c.args.w.now c.args.i c.requires.0 c.requires.1 in grind arith

pub write-requires : goal.write-requires
write-requires c = let f = found c.args.w.now c.args.i c.requires.0 c.requires.1 in grind arith

pub write_heads-requires-clause-k_bound : goal.write_heads-requires-clause-k_bound
write_heads-requires-clause-k_bound c = let f = found c.args.w.now c.args.i c.requires.0 c.requires.1 in grind arith

pub write_heads-requires-clause-from_in_bounds : goal.write_heads-requires-clause-from_in_bounds
write_heads-requires-clause-from_in_bounds c = let f = found c.args.w.now c.args.i c.requires.0 c.requires.1 in grind arith

pub write_heads-requires-2-clause-k_bound : goal.write_heads-requires-2-clause-k_bound
write_heads-requires-2-clause-k_bound c = let f = found c.args.w.now c.args.i c.requires.0 c.requires.1 in grind arith

pub write_heads-requires-2-clause-from_in_bounds : goal.write_heads-requires-2-clause-from_in_bounds
write_heads-requires-2-clause-from_in_bounds c = let f = found c.args.w.now c.args.i c.requires.0 c.requires.1 in grind arith

pub returns : goal.returns
returns c s h =
    let a = c.args in
    let f = found a.w.now a.i c.requires.0 c.requires.1 in
    let g = found a.w.now a.i s h in
    system_written s a.w.now a.i g a.out.now c.write.new.words c.write_heads.new.out c.write_heads-2.new.out a.at _ a.next
    c.if-t-eq0.first_t c.if-u-eq0.first_u c.skip-from_t.result c.skip-from_t.ensures (grind arith) c.write.ensures c.write_heads.ensures c.write_heads-2.ensures
    (grind arith) (λ z. search rules) (λ z. search rules) (λ z. search rules) (λ z. search rules)
