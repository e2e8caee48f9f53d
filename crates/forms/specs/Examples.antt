-- The definitions by computation: polynomials as words.
use Rattle.std.specs.Prelude.{◌≡◌, refl, [], ◌∷◌, true, false}
use Rattle.polynomials.specs.Packed.{bytes, terms}
use Rattle.polynomials.specs.Poly.{Poly, order}
use Rattle.polynomials.specs.Working.{falls, is_canonical}
use Rattle.forms.specs.Words.{paired, words_are_held}

-- v1 v2 + 6.
abbrev h : Poly
h = record { coef = 1; exps = 1 ∷ 1 ∷ 0 ∷ 0 ∷ 0 ∷ 0 ∷ 0 ∷ 0 ∷ [] } ∷ record { coef = 6; exps = 0 ∷ 0 ∷ 0 ∷ 0 ∷ 0 ∷ 0 ∷ 0 ∷ 0 ∷ [] } ∷ []

h_as_pairs_of_words : terms (paired (1 ∷ 257 ∷ 6 ∷ 0 ∷ [])) ≡ h
unfolding terms paired bytes
h_as_pairs_of_words = refl

-- v1^2 + v1 + 5 modulo 7 and modulo 5; v1 + v1^2; a coefficient without its monomial, alone and behind a term.
g_is_held : words_are_held 7 (1 ∷ 2 ∷ 1 ∷ 1 ∷ 5 ∷ 0 ∷ []) ≡ true
unfolding words_are_held is_canonical falls terms paired bytes order
g_is_held = refl

five_is_no_residue_modulo_5 : words_are_held 5 (1 ∷ 2 ∷ 1 ∷ 1 ∷ 5 ∷ 0 ∷ []) ≡ false
unfolding words_are_held is_canonical falls terms paired bytes order
five_is_no_residue_modulo_5 = refl

rising_terms_are_not_held : words_are_held 7 (1 ∷ 1 ∷ 1 ∷ 2 ∷ []) ≡ false
unfolding words_are_held is_canonical falls terms paired bytes order
rising_terms_are_not_held = refl

half_a_pair_is_not_held : words_are_held 7 (1 ∷ []) ≡ false
unfolding words_are_held is_canonical falls terms paired bytes order
half_a_pair_is_not_held = refl

half_a_pair_behind_a_term_is_not_held : words_are_held 7 (1 ∷ 1 ∷ 1 ∷ []) ≡ false
unfolding words_are_held is_canonical falls terms paired bytes order
half_a_pair_behind_a_term_is_not_held = refl
