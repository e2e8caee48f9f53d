-- f is dropped if it is zero or found in P, and else put in behind P where there is room.
use Rattle.std.proofs.Common.{rules, ◌≡◌, ◌≢◌, refl, ◌∙◌, sym, ap, length, arith}
use Rattle.stored.specs.Stored.{member}
use Rattle.branches.proofs.OpenLaws.{end_p_inside, all_p}
use Rattle.places.proofs.PlaceLaws.{counts_are, counts_fit}
use Rattle.puts.proofs.PutLaws.{leaves_same, put_p_zero, put_p_found, kept_p, put_in_p}
use Rattle.puts.proofs.put_p.Goals as goal
use Rattle.puts.proofs.put_p.Goals.{After-skip-to}

nonzero : (k : After-skip-to) → length k.args.f.now ≢ 0
nonzero k = search rules

pub returns-then-zero : goal.returns-then-zero
returns-then-zero c = record {
  when_open = λ b bs ss H.
      let none : length c.args.f.now ≡ 0 = search rules in leaves_same H _ (kept_p c.args.f.now b (put_p_zero c.args.f.now b.P none));
  beyond_stays = refl;
}

pub contains-requires-clause-k_bound : goal.contains-requires-clause-k_bound
contains-requires-clause-k_bound c = let o = c.requires.opened in omega (arith, end_p_inside o.3 (c.open_branch-b.ensures o.0 o.1 o.2 o.3))

pub returns-then-contains : goal.returns-then-contains
returns-then-contains c = record {
  when_open = λ b bs ss H.
      let is = c.open_branch-b.ensures b bs ss H in
      let found = ap (member c.args.f.now) (sym (all_p H is)) ∙ sym c.contains.ensures ∙ c.if-contains.true in
      leaves_same H _ (kept_p c.args.f.now b (put_p_found c.args.f.now _ found));
  beyond_stays = refl;
}

pub skip-to-requires : goal.skip-to-requires
skip-to-requires c = let o = c.requires.opened in omega (arith, end_p_inside o.3 (c.open_branch-b.ensures o.0 o.1 o.2 o.3))

pub overflow_add-b : goal.overflow_add-b
overflow_add-b c =
    let o = c.requires.opened in (counts_fit o.3 (counts_are o.3 (c.open_branch-b.ensures o.0 o.1 o.2 o.3))).0

pub put_at-requires-clause-some_open : goal.put_at-requires-clause-some_open
put_at-requires-clause-some_open c =
    let o = c.requires.opened in
    let is = c.open_branch-b.ensures o.0 o.1 o.2 o.3 in
    let some = nonzero (goal.at.put_at-requires-clause-some_open c).After-skip-to in
    let found = c.contains.ensures ∙ ap (member c.args.f.now) (all_p o.3 is) in
    (_, _, _, put_in_p o.3 is c.args.f.now some (sym found ∙ c.if-contains.false) c.skip-to.ensures)

pub returns : goal.returns
unfolding put_in_p
returns c = record {
  when_open = λ b bs ss H.
      let is = c.open_branch-b.ensures b bs ss H in
      let some = nonzero (goal.at.returns c).After-skip-to in
      let found = c.contains.ensures ∙ ap (member c.args.f.now) (all_p H is) in
      c.put_at.ensures.leaves _ _ _ (put_in_p H is c.args.f.now some (sym found ∙ c.if-contains.false) c.skip-to.ensures);
  beyond_stays = c.put_at.ensures.beyond_stays;
}
