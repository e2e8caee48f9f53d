-- What holds of the exponents of all terms: of the parts of a polynomial, of multiples added and of products.
use Rattle.std.specs.Prelude.{[], ◌∷◌, Bool, true, false, eqb, get_or, set}
use Prim.Native.Nat.{ℕ, ◌+◌, ◌*◌, ◌%◌, Ordering}
use Rattle.residues.specs.laws.Each.{each_map}
use Rattle.polynomials.specs.Poly.{Exponents, Term, Poly, order, join, keep, insert, add_multiple, product}
use Rattle.polynomials.specs.Canonical.{All}
use Rattle.polynomials.specs.Division.{coefficient, without, pure_power, shift}

pub all_map : (P Q : Exponents → Type 0) (f : Poly) → ((e : Exponents) → P e → Q e) → All P f → All Q f
all_map P Q f h u = each_map (λ (t : Term). P t.exps) (λ (t : Term). Q t.exps) (λ t. h t.exps) f u

-- ── the parts ──
pub coefficient_all : (P Q : Exponents → Type 0) (k d : ℕ) (f : Poly) → ((e : Exponents) → P e → Q (set e k 0)) → All P f → All Q (coefficient k d f)
unfolding coefficient
coefficient_all P Q k d [] h u = tt
coefficient_all P Q k d (t ∷ f) h u = go (eqb (get_or t.exps k 0) d) (coefficient_all P Q k d f h u.1)
  where
    go : (b : Bool) → All Q (coefficient k d f) →
        All Q (elim b [ true ↦ record { coef = t.coef; exps = set t.exps k 0 } ∷ coefficient k d f | false ↦ coefficient k d f ])
    go true ih = (h t.exps u.0, ih)
    go false ih = ih

pub without_all : (P : Exponents → Type 0) (k d : ℕ) (f : Poly) → All P f → All P (without k d f)
unfolding without
without_all P k d [] u = tt
without_all P k d (t ∷ f) u = go (eqb (get_or t.exps k 0) d) (without_all P k d f u.1)
  where
    go : (b : Bool) → All P (without k d f) → All P (elim b [ true ↦ without k d f | false ↦ t ∷ without k d f ])
    go true ih = ih
    go false ih = (u.0, ih)

pub shift_all : (P Q : Exponents → Type 0) (k m : ℕ) (f : Poly) → ((e : Exponents) → P e → Q (join (pure_power k m) e)) → All P f → All Q (shift k m f)
unfolding shift
shift_all P Q k m [] h u = tt
shift_all P Q k m (t ∷ f) h u = (h t.exps u.0, shift_all P Q k m f h u.1)

-- ── the operations ──
all_keep : (P : Exponents → Type 0) (c : ℕ) (e : Exponents) (f : Poly) → P e → All P f → All P (keep c e f)
unfolding keep
all_keep P c e f h u = go (eqb c 0)
  where
    go : (b : Bool) → All P (elim b [ true ↦ f | false ↦ record { coef = c; exps = e } ∷ f ])
    go true = u
    go false = (h, u)

pub all_insert : (P : Exponents → Type 0) (p c : ℕ) (e : Exponents) (f : Poly) → P e → All P f → All P (insert p c e f)
unfolding insert
all_insert P p c e [] h u = all_keep P c e [] h tt
all_insert P p c e (t ∷ f) h u = go (order e t.exps) (all_insert P p c e f h u.1)
  where
    go : (o : Ordering) → All P (insert p c e f) → All P (elim o [ Ordering.lt ↦ t ∷ insert p c e f | Ordering.eq ↦ keep ((c + t.coef) % p) e f | Ordering.gt ↦ keep c e (t ∷ f) ])
    go Ordering.lt ih = (u.0, ih)
    go Ordering.eq ih = all_keep P ((c + t.coef) % p) e f h u.1
    go Ordering.gt ih = all_keep P c e (t ∷ f) h u

pub all_add_multiple : (P Q : Exponents → Type 0) (p c : ℕ) (e : Exponents) (g f : Poly) → ((b : Exponents) → P b → Q (join e b)) → All P g → All Q f → All Q (add_multiple p c e g f)
unfolding add_multiple
all_add_multiple P Q p c e [] f h u v = v
all_add_multiple P Q p c e (t ∷ g) f h u v = all_insert Q p (c * t.coef % p) (join e t.exps) (add_multiple p c e g f) (h t.exps u.0) (all_add_multiple P Q p c e g f h u.1 v)

-- Whatever holds of all joined exponents holds of the product's.
pub all_product : (P Q S : Exponents → Type 0) (p : ℕ) (f g : Poly) → ((a b : Exponents) → P a → Q b → S (join a b)) → All P f → All Q g → All S (product p f g)
unfolding product
all_product P Q S p [] g h u v = tt
all_product P Q S p (t ∷ f) g h u v = all_add_multiple Q S p t.coef t.exps g (product p f g) (λ b. h t.exps b u.0) v (all_product P Q S p f g h u.1 v)
