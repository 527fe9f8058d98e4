-- Laws of what stands under names, where one place is marked as open.
use Rattle.std.proofs.Common.{◌≡◌, Bool, true, false, ℕ, zero, suc, ◌<◌, List, [], ◌∷◌, length, map, filter, reverse, get_or, set, take, refl, ap, sym, ◌∙◌, cond, Some, None, Option, arith, subst, drop, ◌+◌, add-one}
use Rattle.std.specs.Option.{option_map, option_map_or}
use Rattle.std.specs.Prelude.{not}
use Rattle.std.specs.Str.{bytes_eq}
use Rattle.std.proofs.lemmas.Slice.Eq.{bytes_eq-Decides}
use Rattle.std.proofs.lemmas.List.{reverse-append, drop_more}
use Rattle.mem_edges.specs.declared.named.Named.{Named}
use Rattle.mem_edges.specs.Shelf.{under, is_free, with_name}
use Rattle.mem_edges.specs.Place.{IsFreePlace}
use Rattle.mem_edges.specs.Opens.{Opens, Puts}

-- the same thing, open
abbrev pub opened_of : {T : Type 0} → Named T → Named T
opened_of x = record x { opened = true }

open_cond : {T : Type 0} (t : Bool) (x : Named T) (u v : Option (Named T)) → option_map (λ (e : Named T). e.item) u ≡ option_map (λ (e : Named T). e.item) v
    → option_map (λ (e : Named T). e.item) (cond t (Some (opened_of x)) u) ≡ option_map (λ (e : Named T). e.item) (cond t (Some x) v)
open_cond true x u v h = refl
open_cond false x u v h = h

same_cond : {T : Type 0} (t : Bool) (x : Named T) (u v : Option (Named T)) → option_map (λ (e : Named T). e.item) u ≡ option_map (λ (e : Named T). e.item) v
    → option_map (λ (e : Named T). e.item) (cond t (Some x) u) ≡ option_map (λ (e : Named T). e.item) (cond t (Some x) v)
same_cond true x u v h = refl
same_cond false x u v h = h

pub items_stay : {T : Type 0} (name : List ℕ) (shelf : List (Named T)) (at : ℕ) (d : Named T)
    → option_map (λ (e : Named T). e.item) (under name (set shelf at (opened_of (get_or shelf at d)))) ≡ option_map (λ (e : Named T). e.item) (under name shelf)
items_stay name [] at d = refl
items_stay name (x ∷ xs) zero d = open_cond (bytes_eq x.name name) x (under name xs) (under name xs) refl
items_stay name (x ∷ xs) (suc n) d =
    same_cond (bytes_eq x.name name) x (under name (set xs n (opened_of (get_or xs n d)))) (under name xs) (items_stay name xs n d)

back_cond : {T : Type 0} (t : Bool) (x : Named T) (u v : List (Named T)) → map with_name u ≡ map with_name v
    → map with_name (cond t (opened_of x ∷ u) u) ≡ map with_name (cond t (x ∷ v) v)
back_cond true x u v h = ap (λ r. with_name x ∷ r) h
back_cond false x u v h = h

kept_cond : {T : Type 0} (t : Bool) (x : Named T) (u v : List (Named T)) → map with_name u ≡ map with_name v
    → map with_name (cond t (x ∷ u) u) ≡ map with_name (cond t (x ∷ v) v)
kept_cond true x u v h = ap (λ r. with_name x ∷ r) h
kept_cond false x u v h = h

back_stays : {T : Type 0} (shelf : List (Named T)) (at : ℕ) (d : Named T)
    → map with_name (filter (λ (e : Named T). e.returned) (set shelf at (opened_of (get_or shelf at d))))
    ≡ map with_name (filter (λ (e : Named T). e.returned) shelf)
back_stays [] at d = refl
back_stays (x ∷ xs) zero d = back_cond x.returned x (filter (λ (e : Named _). e.returned) xs) (filter (λ (e : Named _). e.returned) xs) refl
back_stays (x ∷ xs) (suc n) d =
    kept_cond x.returned x (filter (λ (e : Named _). e.returned) (set xs n (opened_of (get_or xs n d)))) (filter (λ (e : Named _). e.returned) xs) (back_stays xs n d)

found_cond : {T : Type 0} (t : Bool) (x : Named T) (u : Option (Named T)) → cond t (Some x) u ≡ None → (t ≡ false) × (u ≡ None)
found_cond true x u h = cc
found_cond false x u h = (refl, h)

not_free : {T : Type 0} (t : Bool) (x : Named T) (u : Option (Named T)) → t ≡ true → option_map_or (λ (e : Named T). not e.opened) (cond t (Some (opened_of x)) u) false ≡ false
not_free true x u h = refl
not_free false x u h = cc

-- what stands at the newest place of a name is no more free
pub opened_there : {T : Type 0} (name : List ℕ) (shelf : List (Named T)) (at : ℕ) (d : Named T) → at < length shelf
    → bytes_eq (get_or shelf at d).name name ≡ true → under name (take at shelf) ≡ None
    → is_free name (set shelf at (opened_of (get_or shelf at d))) ≡ false
opened_there name [] at d within named newest = refl
opened_there name (x ∷ xs) zero d within named newest = not_free (bytes_eq x.name name) x (under name xs) named
opened_there name (x ∷ xs) (suc n) d within named newest =
    let f = found_cond (bytes_eq x.name name) x (under name (take n xs)) newest in
    rw f.0 (opened_there name xs n d (omega (arith, within)) named f.1)

free_cond : {T : Type 0} (t : Bool) (x : Named T) (u v : Option (Named T)) → option_map_or (λ (e : Named T). not e.opened) u false ≡ option_map_or (λ (e : Named T). not e.opened) v false
    → option_map_or (λ (e : Named T). not e.opened) (cond t (Some x) u) false ≡ option_map_or (λ (e : Named T). not e.opened) (cond t (Some x) v) false
free_cond true x u v h = refl
free_cond false x u v h = h

-- under another name what is free stays so
pub others_stay : {T : Type 0} (n : List ℕ) (shelf : List (Named T)) (at : ℕ) (d : Named T) → bytes_eq (get_or shelf at d).name n ≡ false
    → is_free n (set shelf at (opened_of (get_or shelf at d))) ≡ is_free n shelf
others_stay n [] at d other = refl
others_stay n (x ∷ xs) zero d other = rw other refl
others_stay n (x ∷ xs) (suc k) d other =
    free_cond (bytes_eq x.name n) x (under n (set xs k (opened_of (get_or xs k d)))) (under n xs) (others_stay n xs k d other)

bool_false : (b : Bool) → (b ≡ true → ⊥) → b ≡ false
bool_false true f = absurd (f refl)
bool_false false f = refl

-- a text that equals one name equals no other
pub other_name : (a name n : List ℕ) → bytes_eq a name ≡ true → ¬ (n ≡ name) → bytes_eq a n ≡ false
other_name a name n h differs =
    bool_false (bytes_eq a n) (λ e. differs (sym ((bytes_eq-Decides a n).0 e) ∙ (bytes_eq-Decides a name).0 h))

pub same_name : (name : List ℕ) → bytes_eq name name ≡ true
same_name name = (bytes_eq-Decides name name).1 refl

-- a place of something free is marked as open
pub opens : {T : Type 0} (name : List ℕ) (shelf : List (Named T)) (at : ℕ) (d : Named T) → IsFreePlace name shelf at
    → Opens name shelf (set shelf at (opened_of (get_or shelf at d)))
opens name shelf at d place = record {
  stands = λ n. items_stay n shelf at d;
  back = ap reverse (back_stays shelf at d);
  no_more_free = opened_there name shelf at d place.within (place.named d) place.newest;
  others_free = λ n differs. others_stay n shelf at d (other_name (get_or shelf at d).name name n (place.named d) differs);
}

-- something is put under a name
pub puts : {T : Type 0} (name : List ℕ) (item : T) (returned : Bool) (shelf : List (Named T))
    → Puts name item returned shelf (record { name = name; item = item; opened = false; returned = returned } ∷ shelf)
puts name item true shelf = record {
  stands = rw (same_name name) refl;
  free = rw (same_name name) refl;
  others = λ n differs. rw (other_name name name n (same_name name) differs) refl;
  back = reverse-append ((name, item) ∷ []) (map with_name (filter (λ (e : Named _). e.returned) shelf));
}
puts name item false shelf = record {
  stands = rw (same_name name) refl;
  free = rw (same_name name) refl;
  others = λ n differs. rw (other_name name name n (same_name name) differs) refl;
  back = refl;
}

none_front : {T : Type 0} (name : List ℕ) (shelf : List (Named T)) (at : ℕ) (d : Named T) → at < length shelf → bytes_eq (get_or shelf at d).name name ≡ false
    → under name (take at shelf) ≡ None → under name (take (suc at) shelf) ≡ None
none_front name [] at d within other newest = refl
none_front name (x ∷ xs) zero d within other newest = rw other refl
none_front name (x ∷ xs) (suc n) d within other newest =
    let f = found_cond (bytes_eq x.name name) x (under name (take n xs)) newest in
    rw f.0 (none_front name xs n d (omega (arith, within)) other f.1)

-- a place under another name is passed
pub next_place : {T : Type 0} (name : List ℕ) (shelf : List (Named T)) (at : ℕ) (x : Named T) → at < length shelf → x ≡ get_or shelf at x → bytes_eq x.name name ≡ false
    → under name (drop at shelf) ≡ under name shelf → under name (take at shelf) ≡ None
    → (under name (drop (at + 1) shelf) ≡ under name shelf) × (under name (take (at + 1) shelf) ≡ None)
next_place name shelf at x within is other rest newest =
    let here : bytes_eq (get_or shelf at x).name name ≡ false =
    subst (λ (y : Named _). bytes_eq y.name name ≡ false) is other
    in
    (rw (drop_more shelf at x within, here) at rest, rw add-one (none_front name shelf at x within here newest))

-- the same, by what was read at the place
pub opens_read : {T : Type 0} (name : List ℕ) (shelf : List (Named T)) (at : ℕ) (x : Named T) → x ≡ get_or shelf at x → IsFreePlace name shelf at
    → Opens name shelf (set shelf at (opened_of x))
opens_read name shelf at x is place =
    subst (λ (y : Named _). Opens name shelf (set shelf at (opened_of y))) (sym is) (opens name shelf at x place)
