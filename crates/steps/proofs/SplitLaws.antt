-- Rule 3 done, or stopped for want of room: then a branch is open.
use mathlib.Core.Path.{◌≡◌, refl, sym, ap, subst, ◌∙◌}
use mathlib.Core.Logic.{◌≢◌}
use mathlib.Core.Bool.{Bool, true, false}
use mathlib.Core.List.{List, [], map, reverse}
use Prim.Native.Nat.{ℕ}
use native.Mathlib.Omega.{arith}
use lib.Dec.{leb}
use lib.ListN.{get_or}
use Rattle.std.specs.Prelude.{Result, Err, IsOk, IsErr}
use Rattle.branches.specs.laws.Fitted.{has_room, lacks_room, for_room}
use Rattle.branches.specs.laws.Words.{each_remove}
use Rattle.residues.specs.Prime.{Prime}
use Rattle.polynomials.specs.Poly.{monic}
use Rattle.polynomials.specs.Division.{initial, rest}
use Rattle.polynomials.specs.Packed.{terms}
use Rattle.polynomials.specs.laws.Parts.{canonical_rest}
use Rattle.polynomials.specs.laws.Places.{places_terms}
use Rattle.tables.specs.declared.Reason.{Reason}
use Rattle.tables.specs.declared.Reason.TheVariants.{Room}
use Rattle.rules.specs.Rule.{Rule, split, rule_with}
use Rattle.rules.specs.Step.{Stepped, next, stopped, apply}
use Rattle.records.specs.Records.{Rec}
use Rattle.branches.specs.Words.{put_p, remove}
use Rattle.branches.specs.Area.{Stored, Area, Held, Leaves, size, with_open, split_area, fitting, unfinished_split}
use Rattle.representation.specs.Represent.{Sound, branch_of, system_of, state_of, chosen, Monic}
use Rattle.representation.specs.laws.Lists.{sound_at, put_p_nonzero}
use Rattle.representation.specs.laws.Sounds.{split_area_sound}
use Rattle.representation.specs.laws.Monics.{initial_monic, stored_initial_own, stored_monic, remove_monic, put_p_monic, monic_at}
use Rattle.representation.specs.laws.Steps.{if_fits, apply_split}
use Rattle.representation.specs.Ready.{Ready, limits_in}
use Rattle.steps.specs.Pending.{Leads}
use Rattle.polynomials.specs.declared.Term.{Term as Packed}

err_same : {why then : Reason} → ◌≡◌ {A = Result (Unit {0}) Reason} (Err why) (Err then) → why ≡ then
err_same e = cc

-- The state a has an open branch, over the waiting ones bs and the systems ss.
abbrev Opens : List Stored → List Stored → Area → Type 0
Opens bs ss a = (c : Stored) × (a ≡ with_open c bs ss)

fitting_opens : (most : ℕ) {bs ss : List Stored} (a₀ a : Area) → Opens bs ss a₀ → Opens bs ss a → Opens bs ss (fitting most a₀ a)
fitting_opens most {bs} {ss} a₀ a h₀ h = go (leb (size a) most)
  where
    go : (t : Bool) → Opens bs ss (elim t as (λ t. Area) [ true ↦ a | false ↦ a₀ ])
    go true = h
    go false = h₀

unfinished_split_opens : (most i : ℕ) (ini rst : List Packed) (b : Stored) (bs ss : List Stored) → Opens bs ss (unfinished_split most i ini rst b bs ss)
unfinished_split_opens most i ini rst b bs ss = fitting_opens most _ _ (fitting_opens most _ _ (_, refl) (_, refl)) (_, refl)

module _ (p k i : ℕ) (prime : Prime p) (b : Stored) (bs ss : List Stored) (R : Ready p (with_open b bs ss)) (L : Leads k i b) (ini rst : List Packed) (s : Sound p ini)
    (of_ini : terms ini ≡ initial k (terms (get_or b.P i []))) (u₀ : Sound p rst) (of_rst : terms rst ≡ monic p (rest k (terms (get_or b.P i [])))) where
  -- The pivot, and the members of P but it.
  abbrev pivot : List Packed
  pivot = get_or b.P i []

  abbrev others : List (List Packed)
  others = remove i b.P

  here : Sound p pivot
  here = sound_at p i b.P R.sound.branches.0.in_p

  ini_monic : Monic (terms ini)
  ini_monic =
      subst Monic (sym of_ini) (initial_monic p k 8 (terms pivot) here.holds.canonical (places_terms pivot) L.2 (monic_at i b.P R.monic.0))

  rst_monic : Monic (terms rst)
  rst_monic = stored_monic p rst (rest k (terms pivot)) prime (canonical_rest p k (terms pivot) here.holds.canonical) of_rst

  ready_split : Ready p (split_area i ini rst b bs ss)
  ready_split = record {
    sound = split_area_sound p b R.sound.branches.0 i ini rst s u₀ bs ss R.sound.branches.1 R.sound.systems;
    monic = (R.monic.0, (put_p_monic rst (put_p ini others) rst_monic (put_p_monic ini others ini_monic (remove_monic i b.P R.monic.0)), R.monic.1));
    nonzero = (R.nonzero.0, (put_p_nonzero rst (put_p ini others) (put_p_nonzero ini others (each_remove (λ f. f ≢ []) i b.P R.nonzero.0)), R.nonzero.1));
    listed = R.listed;
  }

  module _ (v₀ : List Rec) (most : ℕ) (H : Held v₀ most (with_open b bs ss)) (q : Result (Unit {0}) Reason) (v : List Rec)
      (u : Leaves most (unfinished_split most i ini rst b bs ss) (split_area i ini rst b bs ss) q v) (rule : rule_with k (chosen b i) (branch_of b) ≡ split k (chosen b i)) where
    abbrev S : Stepped
    S = apply (limits_in most) p (map branch_of bs) (reverse (map system_of ss)) (rule_with k (chosen b i) (branch_of b)) (branch_of b)

    abbrev room : Bool
    room = leb (size (split_area i ini rst b bs ss)) most

    splits : S ≡ if_fits room (next (state_of (split_area i ini rst b bs ss)))
    splits =
        let own = stored_initial_own p k pivot here L.2 (monic_at i b.P R.monic.0) in
        ap (λ (r : Rule). apply (limits_in most) p (map branch_of bs) (reverse (map system_of ss)) r (branch_of b)) rule
        ∙ apply_split (limits_in most) p b bs ss R.sound.branches.0 k i ini rst s u₀ of_ini own of_rst most refl (omega (arith, H.fits)) R.listed

    if_room : {o : Bool} → room ≡ o → S ≡ if_fits o (next (state_of (split_area i ini rst b bs ss)))
    if_room e = splits ∙ ap (λ o. if_fits o (next (state_of (split_area i ini rst b bs ss)))) e

    pub split_next : IsOk q → (a : Area) × (S ≡ next (state_of a)) × Held v most a × Ready p a
    split_next e = (split_area i ini rst b bs ss, if_room (has_room u.answer e), u.held e, ready_split)

    pub split_stop : (why : Reason) → q ≡ Err why → (S ≡ stopped why) × ((c : Stored) × Held v most (with_open c bs ss))
    split_stop why e =
        let o = unfinished_split_opens most i ini rst b bs ss in
        let x : IsErr q = subst IsErr (sym e) refl in
        let z : Room ≡ why = err_same (sym (for_room room u.answer x) ∙ e) in
        (if_room (lacks_room u.answer x) ∙ ap stopped z, (o.0, subst (Held v most) o.1 (u.otherwise x)))
