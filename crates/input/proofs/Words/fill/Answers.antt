use Rattle.std.proofs.Common.{arith, length, refl, ap, ◌∙◌, ◌≡◌, ◌+◌, ◌-◌, Some, ℕ, List}
use Rattle.decoding.specs.Words.{word_at}
use Rattle.input.specs.Window.{Window}
use Rattle.input.proofs.InputLaws.{filling_none, filling_on, last_put}
use Rattle.input.proofs.Words.fill.Goals as goal

pub loop-i-init : goal.loop-i-init
loop-i-init g c =
    let at = ap (λ (w : Window). w.at) c.self.view_is in
    let end = ap (λ (w : Window). w.end) c.self.view_is in
    record {
      ordered = omega (arith, end, c.self.invariant.0);
      filling = λ _. filling_none c.args.self.now c.args.words.now at;
      last = λ h. absurd (omega arith);
      capacity = refl;
    }

pub loop-i-preserved : goal.loop-i-preserved
loop-i-preserved g c =
    let l = c.loop-i in
    let s = c.self-in-loop-i in
    let bytes = ap (λ (w : Window). w.bytes) s.view_is in
    let end = ap (λ (w : Window). w.end) s.view_is in
    let back : l.at + 4 - 4 ≡ l.at = omega arith in
    record {
      ordered = omega (arith, c.if-self-at-lt4.false);
      filling = λ e. filling_on (length c.args.words.now) l.i {r = Some c.word_at.result} e c.loop-i-test.true (omega arith) (l.invariant.filling e)
          (λ _. (ap Some (c.word_at.ensures ∙ ap (λ (b : List ℕ). word_at b l.at) bytes), λ t. record { bytes = bytes t; at = l.at + 4; end = end t })) refl;
      last = λ _. last_put l.words l.i (omega arith)
          (record { passed = omega arith; ordered = omega (arith, c.if-self-at-lt4.false); within = s.invariant.1; is = rw back c.word_at.ensures });
      capacity = ap length bytes ∙ l.invariant.capacity;
    }
