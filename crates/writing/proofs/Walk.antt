-- The walk over the systems in the work area, which writes the list from its last record to its first.
use mathlib.Core.Path.{◌≡◌, refl, sym, ap, ◌∙◌}
use mathlib.Core.Logic.{◌≢◌}
use mathlib.Core.List.{List, [], ◌∷◌, ◌++◌, map, reverse, reverse_aux, append_assoc}
use Prim.Native.Nat.{ℕ, ◌+◌, ◌*◌, ◌-◌, ◌≤◌, ◌<◌}
use native.Mathlib.Omega.{arith}
use lib.ListN.{length, drop, length-append, length-reverse, length-map}
use lib.Seq.{paste}
use Rattle.residues.specs.Each.{Each}
use Rattle.tables.specs.Read.{System}
use Rattle.rules.specs.Room.{systems_size}
use Rattle.rules.specs.Written.{index_of, system_words, systems_words, list_words, list_records}
use Rattle.rules.proofs.laws.Lengths.{length_list, length_system}
use Rattle.records.specs.Records.{Rec, record_of}
use Rattle.branches.specs.Area.{Stored, Held, branch_records, systems_records, StorableBranch}
use Rattle.branches.specs.declared.Listed.{Listed}
use Rattle.branches.specs.Listed.{listed_of}
use Rattle.branches.proofs.ControlLaws.{top_is, count_is}
use Rattle.representation.specs.Represent.{system_of, AllListed}
use Rattle.representation.specs.laws.Sizes.{length_systems_records, systems_size_reverse}
use Rattle.writing.specs.Listed.{listing_of, StoredAt}
use Rattle.chains.proofs.Over.{over, over_nil, over_front, over_before, paste_over, record_behind}
use Rattle.chains.proofs.Laws.{index_is}
use Rattle.writing.proofs.Systems.{size_of, length_branch_records}

size_cons : (s : System) (ss : List System) → systems_size (s ∷ ss) ≡ systems_size (s ∷ []) + systems_size ss
unfolding systems_size
size_cons s ss = omega arith

-- The systems `rest`, as many as are left, lie from record i on and are still to be written; `done` is written in d from record `end` on.
pub record Walk (v : List Rec) (ss : List Stored) (d out : List ℕ) (i end next left : ℕ) (rest : List Stored) (done : List System) : Type 0 where
  pub before : List Rec
  pub beyond : List Rec
  pub is : v ≡ before ++ (systems_records rest ++ beyond)
  pub starts : length before ≡ i
  pub counted : length rest ≡ left
  pub storable : Each StorableBranch rest
  pub listed : AllListed rest
  pub turned : reverse (map system_of ss) ≡ reverse_aux (map system_of rest) done
  pub room : end ≡ 1 + systems_size (map system_of rest)
  pub low : end ≤ 65536
  pub fits : 4 * (end + systems_size done) ≤ length d
  pub link : next ≡ index_of done end
  pub written : out ≡ over d (4 * end) (systems_words end done)

pub record Walked (v : List Rec) (ss : List Stored) (d out : List ℕ) (i end next left : ℕ) : Type 0 where
  pub rest : List Stored
  pub done : List System
  pub walk : Walk v ss d out i end next left rest done

pub list_some : (ls : List System) → 1 ≤ list_records ls
unfolding list_records
list_some ls = omega arith

pub begins : (v : List Rec) (most : ℕ) (ss : List Stored) (d : List ℕ) (top count left : ℕ) → Held v most (record { branches = []; systems = ss })
    → AllListed ss → 4 * list_records (reverse (map system_of ss)) ≤ length d → left ≡ count → ◌≡◌ {A = Listed} (record { top = top; count = count }) (listed_of most (record { branches = []; systems = ss }))
    → Walked v ss d d top (1 + (most - top)) 0 left
unfolding systems_words list_records systems_size
begins v most ss d top count left h listed fits all told =
    let front : List Rec = record_of 0 1 (1 + 0 + length h.free) (length ss) ∷ h.free in
    let held = h.fits in
    let at : top ≡ 1 + 0 + length h.free = omega (arith, top_is h told) in
    let sized = length_systems_records ss listed in
    let same = systems_size_reverse (map system_of ss) in
    let room : 1 + (most - top) ≡ 1 + systems_size (map system_of ss) = omega arith in
    record {
      rest = ss;
      done = [];
      walk = record {
        before = front;
        beyond = h.beyond;
        is = h.is;
        starts = omega arith;
        counted = sym (all ∙ count_is h told);
        storable = h.storable.1;
        listed = listed;
        turned = refl;
        room = room;
        low = omega (arith, h.few);
        fits = omega arith;
        link = refl;
        written = sym (over_nil d (4 * (1 + (most - top))));
      };
    }

-- The system at i, and how the walk goes on once it is written.
pub record Turn (v : List Rec) (ss : List Stored) (d out : List ℕ) (i end next left : ℕ) : Type 0 where
  pub s : Stored
  pub stored : StoredAt v i s
  pub enough : size_of s ≤ end
  pub low : end ≤ 65536
  pub fits : 4 * end ≤ length d
  pub again : (size at left' : ℕ) (out' : List ℕ) → size ≡ size_of s → at ≡ end - size → left' + 1 ≡ left
      → out' ≡ paste out (4 * at) (system_words at next (system_of s)) (4 * size_of s) → Walked v ss d out' (i + size) at at left'

-- One system more in front of those written.
one_more : (s : Stored) (done : List System) (d out out' : List ℕ) (at end next : ℕ) → at + size_of s ≡ end → 4 * end ≤ length d → next ≡ index_of done end
    → out ≡ over d (4 * end) (systems_words end done) → out' ≡ paste out (4 * at) (system_words at next (system_of s)) (4 * size_of s)
    → out' ≡ over d (4 * at) (systems_words at (system_of s ∷ done))
unfolding systems_words
one_more s done d out out' at end next e fits link written put =
    let S : List ℕ = system_words at next (system_of s) in
    let X : List ℕ = systems_words end done in
    let l = length_system at next (system_of s) in
    put ∙ paste_over out (4 * at) S (4 * size_of s) l ∙ ap (λ (o : List ℕ). over o (4 * at) S) written
    ∙ over_before d (4 * at) S (4 * end) X (omega arith) fits
    ∙ (λ t. over d (4 * at) (system_words at (link t) (system_of s) ++ X))
    ∙ (λ t. over d (4 * at) (system_words at (index_of done (sym e t)) (system_of s) ++ systems_words (sym e t) done))

turn_of : (v : List Rec) (ss : List Stored) (d out : List ℕ) (i end next left : ℕ) (rest : List Stored) (done : List System)
    → Walk v ss d out i end next left rest done → 0 < left → Turn v ss d out i end next left
unfolding systems_records systems_size
turn_of v ss d out i end next left [] done w h = absurd (omega (arith, w.counted))
turn_of v ss d out i end next left (s ∷ rest) done w h =
    let B : List Rec = branch_records 0 s in
    let R : List Rec = systems_records rest in
    let P-none : s.P ≡ [] = w.listed.0 in
    let lB : length B ≡ size_of s = length_branch_records s P-none in
    let is : v ≡ w.before ++ (B ++ (R ++ w.beyond)) = w.is ∙ ap (λ (l : List Rec). w.before ++ l) (append_assoc B R w.beyond) in
    let sized = size_cons (system_of s) (map system_of rest) in
    let more = size_cons (system_of s) done in
    let room : end ≡ 1 + systems_size (map system_of (s ∷ rest)) = w.room in
    let low = w.low in
    let fits = w.fits in
    record {
      s = s;
      stored =
          record {
            before = w.before;
            behind = R ++ w.beyond;
            is = is;
            starts = w.starts;
            finished = P-none;
            storable_u = w.storable.0.1;
            storable_t = w.storable.0.2;
          };
      enough = omega arith;
      low = low;
      fits = omega arith;
      again = λ size at left' out' es ea el put. record {
        rest = rest;
        done = system_of s ∷ done;
        walk = record {
          before = w.before ++ B;
          beyond = w.beyond;
          is = is ∙ sym (append_assoc w.before B (R ++ w.beyond));
          starts = omega (arith, length-append w.before B, w.starts);
          counted = omega (arith, w.counted);
          storable = w.storable.1;
          listed = w.listed.1;
          turned = w.turned;
          room = omega arith;
          low = omega arith;
          fits = omega arith;
          link = refl;
          written = one_more s done d out out' at end next (omega arith) (omega arith) w.link w.written put;
        };
      };
    }

pub turn : {v : List Rec} {ss : List Stored} {d out : List ℕ} {i end next left : ℕ} → Walked v ss d out i end next left → 0 < left → Turn v ss d out i end next left
turn {v} {ss} {d} {out} {i} {end} {next} {left} w h = turn_of v ss d out i end next left w.rest w.done w.walk h

-- At the end all systems are written.
finished_of : (v : List Rec) (ss : List Stored) (d out : List ℕ) (i end next left : ℕ) (rest : List Stored) (done : List System)
    → Walk v ss d out i end next left rest done → left ≡ 0 → out ≡ over d (4 * 1) (systems_words 1 (reverse (map system_of ss)))
unfolding systems_size
finished_of v ss d out i end next left [] done w h =
    let one : end ≡ 1 = w.room in w.written ∙ (λ t. over d (4 * one t) (systems_words (one t) (sym w.turned t)))
finished_of v ss d out i end next left (s ∷ rest) done w h = absurd (omega (arith, w.counted))

pub finished : {v : List Rec} {ss : List Stored} {d out : List ℕ} {i end next left : ℕ} → Walked v ss d out i end next left → left ≡ 0
    → out ≡ over d (4 * 1) (systems_words 1 (reverse (map system_of ss)))
finished {v} {ss} {d} {out} {i} {end} {next} {left} w h = finished_of v ss d out i end next left w.rest w.done w.walk h

-- The header and all systems.
pub list_written : (ss : List Stored) (p n first count : ℕ) (o d out : List ℕ) → d ≡ paste o (4 * 0) (p ∷ n ∷ first ∷ count ∷ []) 4
    → 4 * list_records (reverse (map system_of ss)) ≤ length o → count ≡ length ss → (count ≡ 0 → first ≡ 0) → (count ≢ 0 → first ≡ 1)
    → out ≡ over d (4 * 1) (systems_words 1 (reverse (map system_of ss)))
    → out ≡ list_words (listing_of p n ss) ++ drop (4 * list_records (reverse (map system_of ss))) o
unfolding list_words
list_written ss p n first count o d out e fits ec none one written =
    let L : List System = reverse (map system_of ss) in
    let X : List ℕ = systems_words 1 L in
    let lL : length L ≡ length ss = length-reverse (map system_of ss) ∙ length-map ss system_of in
    let count_is : count ≡ length L = ec ∙ sym lL in
    let first_is : first ≡ index_of L 1 = index_is L 1 first (λ h. one (λ z. omega arith)) (λ h. none (omega arith)) in
    written ∙ ap (λ (l : List ℕ). over l (4 * 1) X) e
    ∙ record_behind o 0 1 p n first count X refl (omega (arith, list_some L))
    ∙ (λ t. over o 0 (p ∷ n ∷ first_is t ∷ count_is t ∷ X))
    ∙ over_front o (list_words (listing_of p n ss))
    ∙ ap (λ (k : ℕ). list_words (listing_of p n ss) ++ drop k o) (length_list (listing_of p n ss))
