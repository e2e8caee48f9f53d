use Rattle.std.proofs.Common.{◌≡◌, ◌+◌, ◌-◌, ◌*◌, ◌%◌, ◌^◌, suc, get_or, sym, ◌∙◌, ap, arith, rules}
use Rattle.std.proofs.Math.Nat.{mod-lt}
use Rattle.residues.specs.Residue.{product}
use Rattle.values.proofs.ValueLaws.{term_rest, term_rest_next, term_rest_end, term_rest_zero, has_byte, bytes_above}
use Rattle.values.proofs.term_value.Goals as goal

pub loop-x-preserved : goal.loop-x-preserved
unfolding product
loop-x-preserved c =
    let p = c.args.p in
    let xs = c.args.point.now in
    let l = c.loop-x in
    let i = l.x-index in
    let e = l.exponents in
    let one : 8 - i ≡ suc (8 - (i + 1)) = omega (arith, has_byte (8 - i) e (omega arith) l.invariant.left) in
    let r : c.multiply-value.result ≡ l.value * (get_or xs i 0 ^ (e % 256) % p) % p = c.multiply-value.ensures ∙ ap (λ z. l.value * z % p) (c.power.ensures ∙ ap (λ z. z ^ (e % 256) % p) (search rules)) in
    record {
      residue = rw r (mod-lt _ (omega arith));
      left = bytes_above (8 - i) (8 - (i + 1)) e one l.invariant.left;
      same =
          ap (term_rest p xs (i + 1) (8 - (i + 1)) _) r
          ∙ sym (term_rest_next p xs i (8 - i) (8 - (i + 1)) e l.value (search rules) one)
          ∙ l.invariant.same;
    }

pub returns-after-loop-x : goal.returns-after-loop-x
returns-after-loop-x c =
    let l = c.loop-x in
    let a = c.args in
    sym (term_rest_end a.p a.point.now l.x-index (8 - l.x-index) l.exponents l.value l.invariant.residue (search rules)) ∙ l.invariant.same

pub returns-then-exponents-eq0 : goal.returns-then-exponents-eq0
returns-then-exponents-eq0 c =
    let l = c.loop-x in
    let a = c.args in
    let z : 0 ≡ l.exponents = omega arith in
    sym (term_rest_zero a.p a.point.now l.x-index (8 - l.x-index) l.value l.invariant.residue)
    ∙ ap (λ e. term_rest a.p a.point.now l.x-index (8 - l.x-index) e l.value) z
    ∙ l.invariant.same
