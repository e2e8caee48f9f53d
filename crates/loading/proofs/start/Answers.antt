-- An empty branch, then P's chain, then Q's. All is said of the records that there were at entry.
use Rattle.std.proofs.Common.{refl, ◌∙◌, arith, rules}
use Rattle.std.proofs.lemmas.Result.{err_from_is_err_and}
use Rattle.records.specs.Records.{view}
use Rattle.branches.specs.Area.{used}
use Rattle.branches.proofs.LengthLaws.{same_used}
use Rattle.words.proofs.Laws.{first_record}
use Rattle.words.proofs.Accepted.{chains_read, chain_read}
use Rattle.loading.proofs.StartLaws.{no_polynomial, alone_empty, alone_in, filled_in, with_zeros, zeros_put, start_none, start_fails, start_put}
use Rattle.loading.proofs.start.Goals as goal

pub returns-then-work-lt2-clause-started : goal.returns-then-work-lt2-clause-started
returns-then-work-lt2-clause-started c t e = let w = c.args.work.now in start_none t (used w) (view w) (omega (arith, c.if-work-lt2.true))

pub put_heads-requires-clause-are_read : goal.put_heads-requires-clause-are_read
put_heads-requires-clause-are_read c =
    let q = c.requires.accepted in chain_read c.requires.header q.1 (search rules)

pub put_heads-requires-clause-alone : goal.put_heads-requires-clause-alone
put_heads-requires-clause-alone c = (no_polynomial, alone_in (same_used _ _ c.begin.auto.w) (alone_empty c.begin.ensures.held))

pub returns-in_err-put_heads-clause-started : goal.returns-in_err-put_heads-clause-started
returns-in_err-put_heads-clause-started c t e =
    let p = err_from_is_err_and c.from_residual.result c.from_residual.ensures.1 in
    let told = chains_read c.requires.header e in
    let zeros = zeros_put (same_used _ _ c.begin.auto.w) told c.begin.ensures.held c.word.ensures c.in_err-put_heads.ensures.filled in
    rw (p.1, p.2) (start_fails t (used c.args.work.now) (view c.put_heads.new.work) c.args.table.modulus told.modulus (omega (arith, c.if-work-lt2.false)) _ refl zeros)

pub put_heads-requires-2-clause-are_read : goal.put_heads-requires-2-clause-are_read
put_heads-requires-2-clause-are_read c =
    let q = c.requires.accepted in chain_read c.requires.header q.1 (search rules)

pub put_heads-requires-2-clause-alone : goal.put_heads-requires-2-clause-alone
put_heads-requires-2-clause-alone c =
    let q = c.requires.accepted in
    let told = chains_read c.requires.header q.1 in
    let zeros = zeros_put (same_used _ _ c.begin.auto.w) told c.begin.ensures.held c.word.ensures c.in_ok-put_heads.ensures.filled in
    (with_zeros c.args.table.modulus q.0, alone_in (same_used _ _ (c.put_heads.auto.work ∙ c.begin.auto.w)) (zeros.alone refl))

pub returns-clause-started : goal.returns-clause-started
returns-clause-started c t e =
    let told = chains_read c.requires.header e in
    let zeros = zeros_put (same_used _ _ c.begin.auto.w) told c.begin.ensures.held c.word.ensures c.in_ok-put_heads.ensures.filled in
    let puts = c.put_heads-2 in
    start_put t (used c.args.work.now) (view puts.new.work) c.args.table.modulus told.modulus (omega (arith, c.if-work-lt2.false)) puts.result
    (filled_in (same_used _ _ (c.put_heads.auto.work ∙ c.begin.auto.w))
    (puts.ensures.filled t.Q (with_zeros c.args.table.modulus t) (rw c.word-2.ensures told.nonzeros)) (zeros.alone refl))

pub word-requires : goal.word-requires
word-requires c = (first_record c.args.table, omega arith)

-- Where there are two records, nothing is said of fewer.
pub returns-in_err-put_heads-clause-too_small : goal.returns-in_err-put_heads-clause-too_small
returns-in_err-put_heads-clause-too_small c h = absurd (omega (arith, h, c.if-work-lt2.false))

pub returns-clause-too_small : goal.returns-clause-too_small
returns-clause-too_small c h = absurd (omega (arith, h, c.if-work-lt2.false))

pub returns-in_err-put_heads-clause-beyond_stays : goal.returns-in_err-put_heads-clause-beyond_stays
returns-in_err-put_heads-clause-beyond_stays c = c.put_heads.ensures.beyond_stays ∙ c.begin.ensures.beyond_stays

pub returns-clause-beyond_stays : goal.returns-clause-beyond_stays
returns-clause-beyond_stays c = c.put_heads-2.ensures.beyond_stays ∙ c.put_heads.ensures.beyond_stays ∙ c.begin.ensures.beyond_stays
