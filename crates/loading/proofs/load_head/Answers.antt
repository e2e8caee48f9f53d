-- A term is loaded in each turn.
use Rattle.std.proofs.Common.{◌≡◌, ◌∙◌}
use Rattle.std.proofs.Math.Path.{ap₂}
use Rattle.polynomials.specs.Packed.{bytes, exponents}
use Rattle.tables.specs.Words.{word}
use Rattle.tables.specs.laws.Linked.{chain_less}
use Rattle.loading.proofs.LoadLaws.{load_start, load_next, load_end}
use Rattle.loading.proofs.load_head.Goals as goal

pub loop-i-init : goal.loop-i-init
loop-i-init c = rw c.word-i.ensures (load_start c.requires.in_bounds c.requires.inside c.requires.is_read.1)

pub loop-i-smaller : goal.loop-i-smaller
loop-i-smaller c = rw c.word-i-in-loop-i.ensures (chain_less c.loop-i.invariant.chain c.loop-i-test.true)

pub loop-i-preserved : goal.loop-i-preserved
loop-i-preserved c =
    let w = c.args.table.words.now in
    let i = c.loop-i.i in
    let e : bytes 8 c.packed.result ≡ exponents (word w i 1) (word w i 2) =
    c.packed.ensures.1 ∙ ap₂ exponents c.word-in-loop-i.ensures c.word-in-loop-i-2.ensures in
    rw c.word-i-in-loop-i.ensures (load_next c.loop-i.invariant c.loop-i-test.true _ (c.from.ensures ∙ c.word.ensures) e)

pub returns : goal.returns
returns c = load_end c.loop-i.invariant c.requires.inside c.loop-i-test.false
