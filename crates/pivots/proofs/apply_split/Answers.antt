-- The rest is copied and made monic, and the branch is split.
use Rattle.std.proofs.Common.{◌≡◌, ◌∙◌, ap, ◌++◌, ◌-◌, ◌≤◌, ◌+◌, List, ℕ, length, drop, arith}
use Rattle.std.specs.List.{between}
use Rattle.std.proofs.lemmas.Slice.{between_to_end}
use Rattle.polynomials.specs.Poly.{monic}
use Rattle.polynomials.specs.Packed.{terms}
use Rattle.polynomials.specs.Division.{leader, initial}
use Rattle.polynomials.specs.declared.Term.{Term as Packed}
use Rattle.representation.specs.Represent.{Sound}
use Rattle.representation.specs.laws.Sounds.{sound_storable}
use Rattle.members.proofs.MadeLaws.{Made, made_by, made_behind, made_monic, made_sound, made_storable}
use Rattle.pivots.proofs.RestLaws.{RestIn, rest_in, initial_inside}
use Rattle.pivots.proofs.apply_split.Goals.{After-monic}
use Rattle.pivots.proofs.apply_split.Goals as goal

inside : (p k : ℕ) (t i : List Packed) → (Sound p t) × (leader (terms t) ≡ k + 1) → (Sound p i) × (terms i ≡ initial k (terms t)) → length i ≤ length t
inside p k t i T I = initial_inside p k t i T.0.holds.canonical T.1 I.1

-- The terms that were copied, s, are those of t behind the initial's.
the_rest : (p k : ℕ) (t i r s : List Packed) → (Sound p t) × (leader (terms t) ≡ k + 1) → (Sound p i) × (terms i ≡ initial k (terms t)) → 256 ≤ length r
    → s ≡ between (length i) (length t) t → RestIn p k t r (s ++ drop (length t - length i) r) (length t - length i)
the_rest p k t i r s T I room copied =
    rest_in p k t i T.0.holds.canonical T.1 I.1 T.0.holds.few r s room (copied ∙ between_to_end t (length i) (length t) (omega arith))

-- They are the rest, which was made monic.
module _ (c : After-monic) where
  abbrev size : ℕ
  size = length c.args.t.now - length c.args.i.now

  abbrev copied : List Packed
  copied = c.copy_from_slice.new.self ++ drop size c.args.r.now

  rest_copied : RestIn c.args.p c.args.k c.args.t.now c.args.r.now copied size
  rest_copied =
      the_rest c.args.p c.args.k c.args.t.now c.args.i.now c.args.r.now c.copy_from_slice.new.self c.requires.sound c.requires.sound_2 c.requires.opened.2
      c.copy_from_slice.ensures.after

  made : Made c.args.p size copied c.monic.new.f
  made =
      let R = rest_copied in
      made_by c.args.p size copied c.monic.new.f c.requires.opened.1 c.get.ensures.below (R.inside, R.holds) c.monic.auto.f c.monic.ensures.is
      c.monic.ensures.in_words

pub overflow_sub-l : goal.overflow_sub-l
overflow_sub-l c = inside c.args.p c.args.k c.args.t.now c.args.i.now c.requires.sound c.requires.sound_2

pub slice_bounds-copy_from_slice-count : goal.slice_bounds-copy_from_slice-count
slice_bounds-copy_from_slice-count c = inside c.args.p c.args.k c.args.t.now c.args.i.now c.requires.sound c.requires.sound_2

pub slice_bounds-copy_from_slice-start : goal.slice_bounds-copy_from_slice-start
slice_bounds-copy_from_slice-start c = inside c.args.p c.args.k c.args.t.now c.args.i.now c.requires.sound c.requires.sound_2

pub monic-requires-clause-canonical : goal.monic-requires-clause-canonical
monic-requires-clause-canonical c =
    let R =
    the_rest c.args.p c.args.k c.args.t.now c.args.i.now c.args.r.now c.copy_from_slice.new.self c.requires.sound c.requires.sound_2 c.requires.opened.2
    c.copy_from_slice.ensures.after in
    R.holds.canonical

pub split-requires-clause-storable : goal.split-requires-clause-storable
split-requires-clause-storable c = sound_storable c.args.p (omega (arith, c.get.ensures.below)) c.args.t.now c.requires.sound.0

pub split-requires-clause-storable_2 : goal.split-requires-clause-storable_2
split-requires-clause-storable_2 c = sound_storable c.args.p (omega (arith, c.get.ensures.below)) c.args.i.now c.requires.sound_2.0

pub split-requires-clause-storable_3 : goal.split-requires-clause-storable_3
split-requires-clause-storable_3 c = made_storable (made (goal.at.split-requires-clause-storable_3 c).After-monic)

pub returns-clause-sound_3 : goal.returns-clause-sound_3
returns-clause-sound_3 c =
    let z = (goal.at.returns-clause-sound_3 c).After-monic in
    let m = made z in
    let R = rest_copied z in
    (made_sound m, made_monic m ∙ ap (monic c.args.p) R.is, made_behind m ∙ R.behind)
