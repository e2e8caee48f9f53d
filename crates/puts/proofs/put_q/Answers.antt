-- f is dropped if it is 1 or found among the members of Q that are looked at, and else put in behind those where there is room. No answer names the
-- test on 1, so that an edit which turns it round is refused for what it means.
use Rattle.std.proofs.Common.{rules, ◌≡◌, refl, ◌∙◌, sym, ap, true, false, arith}
use Rattle.stored.specs.Stored.{member}
use Rattle.branches.specs.Words.{is_one}
use Rattle.branches.proofs.OpenLaws.{q_is, end_p_inside}
use Rattle.places.proofs.PlaceLaws.{counts_are, counts_fit}
use Rattle.puts.proofs.PutLaws.{leaves_same, put_q_one, put_q_found, seen_q, seen_inside, kept_q, put_in_q}
use Rattle.puts.proofs.put_q.Goals as goal
use Rattle.puts.proofs.put_q.Goals.{After-skip-to}

not_one : (k : After-skip-to) → is_one k.args.f.now ≡ false
not_one k = search rules

pub returns-then-dropped : goal.returns-then-dropped
returns-then-dropped c = record {
  when_open_2 = λ b bs ss H.
      let one : is_one c.args.f.now ≡ true = search rules in leaves_same H _ (kept_q c.args.left c.args.f.now b (put_q_one c.args.f.now _ one));
  beyond_stays = refl;
}

pub skip-from-requires : goal.skip-from-requires
skip-from-requires c = let o = c.requires.opened in omega (arith, end_p_inside o.3 (c.open_branch-b.ensures o.0 o.1 o.2 o.3))

pub overflow_sub-new : goal.overflow_sub-new
overflow_sub-new c =
    let o = c.requires.opened in
    omega (arith, q_is o.3 (c.open_branch-b.ensures o.0 o.1 o.2 o.3), c.requires.when_open o.0 o.1 o.2 o.3)

pub contains-requires-clause-k_bound : goal.contains-requires-clause-k_bound
contains-requires-clause-k_bound c =
    let o = c.requires.opened in
    omega (arith, seen_inside o.3 (c.open_branch-b.ensures o.0 o.1 o.2 o.3) c.skip-from.ensures c.args.left)

pub returns-then-contains : goal.returns-then-contains
returns-then-contains c = record {
  when_open_2 = λ b bs ss H.
      let is = c.open_branch-b.ensures b bs ss H in
      let found = ap (member c.args.f.now) (sym (seen_q H is c.skip-from.ensures c.args.left)) ∙ sym c.contains.ensures ∙ c.if-contains.true in
      leaves_same H _ (kept_q c.args.left c.args.f.now b (put_q_found c.args.f.now _ found));
  beyond_stays = refl;
}

pub skip-to-requires : goal.skip-to-requires
skip-to-requires c =
    let o = c.requires.opened in
    omega (arith, seen_inside o.3 (c.open_branch-b.ensures o.0 o.1 o.2 o.3) c.skip-from.ensures c.args.left)

pub overflow_add-b : goal.overflow_add-b
overflow_add-b c =
    let o = c.requires.opened in (counts_fit o.3 (counts_are o.3 (c.open_branch-b.ensures o.0 o.1 o.2 o.3))).1

pub put_at-requires-clause-some_open : goal.put_at-requires-clause-some_open
put_at-requires-clause-some_open c =
    let o = c.requires.opened in
    let is = c.open_branch-b.ensures o.0 o.1 o.2 o.3 in
    let other = not_one (goal.at.put_at-requires-clause-some_open c).After-skip-to in
    let found = c.contains.ensures ∙ ap (member c.args.f.now) (seen_q o.3 is c.skip-from.ensures c.args.left) in
    (_, _, _, put_in_q o.3 is c.skip-from.ensures c.args.left c.args.f.now other (sym found ∙ c.if-contains.false) c.skip-to.ensures)

pub returns : goal.returns
unfolding put_in_q
returns c = record {
  when_open_2 = λ b bs ss H.
      let is = c.open_branch-b.ensures b bs ss H in
      let other = not_one (goal.at.returns c).After-skip-to in
      let found = c.contains.ensures ∙ ap (member c.args.f.now) (seen_q H is c.skip-from.ensures c.args.left) in
      c.put_at.ensures.leaves _ _ _
      (put_in_q H is c.skip-from.ensures c.args.left c.args.f.now other (sym found ∙ c.if-contains.false) c.skip-to.ensures);
  beyond_stays = c.put_at.ensures.beyond_stays;
}
