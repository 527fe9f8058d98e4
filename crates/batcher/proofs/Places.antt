-- The entry at a place, found by its key, and an entry that goes behind all others.
use Rattle.std.proofs.Common.{◌≡◌, ℕ, zero, suc, ◌-◌, ◌^◌, ◌<◌, ◌≤◌, List, [], ◌∷◌, ◌++◌, length, map, take, drop, Bool, true, false, cond, refl, ap, sym, ◌∙◌, subst, Some, None, Option, Vec, Global, All, slice_get, arith}
use Rattle.std.specs.Prelude.{remove, bytes_eq, is_some, unwrap_or, option_map, IsSome, IfSome}
use Rattle.std.specs.List.{AllByRecursion, IsDistinct}
use Rattle.std.specs.Option.{option_map_or, option_copied_mut}
use Rattle.std.specs.Borrow.{MutBor}
use Rattle.std.specs.Map.{keys_of, lookup, lookup_entry, remove_entry, set_value}
use Rattle.std.proofs.lemmas.Bool.{true≢false}
use Rattle.std.proofs.lemmas.Cmp.{nat_list_eq_equiv}
use Rattle.std.proofs.lemmas.List.{take_all, take-map, map-append}
use Rattle.std.proofs.lemmas.List.Elements.{All-append, All-take, All-drop, All-cons, All-nil}
use Rattle.std.proofs.lemmas.Option.{get_or_from_slice_get, slice_get_within, slice_get-map}
use Rattle.lru.specs.LruCache.{LruCache, lru_cache, demoted, put_entries}
use Rattle.batcher.specs.declared.messages.Messages.{Messages}
use Rattle.batcher.specs.Seen.{HasRoom, key_in}
use Rattle.batcher.proofs.Gathers.{Entries, has_key}
use Rattle.batcher.proofs.Leaving.{map-remove, set_value_at}

abbrev pub same_key : Vec ℕ Global → Vec ℕ Global → Bool
same_key j k = bytes_eq j.items k.items

differs_from : (k : Vec ℕ Global) (es : Entries) (at : ℕ) (entry : Vec ℕ Global × Messages) → slice_get es at ≡ Some entry → AllByRecursion (λ y. same_key k y ≡ false) (keys_of es) → same_key k entry.0 ≡ false
differs_from k [] at entry e every = absurd (true≢false (ap is_some (sym e)))
differs_from k (first ∷ es) zero entry e every = sym (ap (λ o. same_key k (unwrap_or o first).0) e) ∙ every.0
differs_from k (first ∷ es) (suc at) entry e every = differs_from k es at entry e every.1

-- the key finds the entry at this place, and no other
pub record IsFound (es : Entries) (at : ℕ) (entry : Vec ℕ Global × Messages) (key : List ℕ) : Type 0 where
  pub found : lookup_entry (has_key key) es ≡ Some entry
  pub value : lookup (has_key key) es ≡ Some entry.1
  pub removed : remove_entry (has_key key) es ≡ remove es at
  pub put : (w : Messages) → set_value (has_key key) es w ≡ set_value_at es at w

pub found_at : (es : Entries) (at : ℕ) (entry : Vec ℕ Global × Messages) (key : List ℕ) → slice_get es at ≡ Some entry → key ≡ entry.0.items → IsDistinct same_key (keys_of es) → IsFound es at entry key
unfolding IsDistinct
found_at [] at entry key e is apart = absurd (true≢false (ap is_some (sym e)))
found_at (first ∷ es) zero entry key e is apart = record {
  found = ap (λ b. cond b (Some first) (lookup_entry (has_key key) es)) passes ∙ e;
  value = ap (λ b. cond b (Some first.1) (lookup (has_key key) es)) passes ∙ ap (option_map (λ (x : Vec ℕ Global × Messages). x.1)) e;
  removed = ap (λ b. cond b es (first ∷ remove_entry (has_key key) es)) passes;
  put = λ w. ap (λ b. cond b ((first.0, w) ∷ es) (first ∷ set_value (has_key key) es w)) passes;
}
  where
    passes : bytes_eq key first.0.items ≡ true
    passes = ap (λ k. bytes_eq k first.0.items) (is ∙ sym (ap (λ o. (unwrap_or o first).0.items) e)) ∙ nat_list_eq_equiv.refl first.0.items
found_at (first ∷ es) (suc at) entry key e is apart =
    let rest = found_at es at entry key e is apart.1 in
    record {
      found = ap (λ b. cond b (Some first) (lookup_entry (has_key key) es)) differs ∙ rest.found;
      value = ap (λ b. cond b (Some first.1) (lookup (has_key key) es)) differs ∙ rest.value;
      removed = ap (λ b. cond b es (first ∷ remove_entry (has_key key) es)) differs ∙ ap (λ es. first ∷ es) rest.removed;
      put = λ w. ap (λ b. cond b ((first.0, w) ∷ es) (first ∷ set_value (has_key key) es w)) differs ∙ ap (λ es. first ∷ es) (rest.put w);
    }
  where
    differs : bytes_eq key first.0.items ≡ false
    differs = ap (λ k. bytes_eq k first.0.items) is ∙ (nat_list_eq_equiv.symm entry.0.items first.0.items ∙ differs_from first.0 es at entry e apart.0)

-- the entry at a place, found by a copy of its key
pub record Found (es : Entries) (at : ℕ) (key : List ℕ) : Type 0 where
  pub entry : Vec ℕ Global × Messages
  pub there : slice_get es at ≡ Some entry
  pub is : IsFound es at entry key

pub found_where : (es : Entries) (at : ℕ) (key : List ℕ) → option_map key_in (slice_get es at) ≡ Some key → IsDistinct same_key (keys_of es) → Found es at key
found_where es at key copied apart = by (slice_get es at) refl copied
  where
    by : (o : Option (Vec ℕ Global × Messages)) → slice_get es at ≡ o → option_map key_in o ≡ Some key → Found es at key
    by None there e = absurd (true≢false (ap is_some (sym e)))
    by (Some entry) there e = record { entry = entry; there = there; is = found_at es at entry key there (sym (ap (λ o. unwrap_or o key) e)) apart }

pub copied_is : (o : Option (Vec ℕ Global × Messages)) (key : Vec ℕ Global) → option_map (λ (e : Vec ℕ Global × Messages). e.0) o ≡ Some key → option_map key_in o ≡ Some key.items
copied_is None key e = ap (option_map (λ (k : Vec ℕ Global). k.items)) e
copied_is (Some entry) key e = ap (option_map (λ (k : Vec ℕ Global). k.items)) e

pub some_there : {B : Type 0} (es : List B) (at : ℕ) → at < length es → IsSome (slice_get es at)
some_there (x ∷ es) zero within = refl
some_there (x ∷ es) (suc at) within = some_there es at (omega (arith, within))
some_there [] at within = absurd (omega (arith, within))

-- what is shown of a place within a list is there
pub some_shown : {A B : Type 0} (f : A → B) (o : Option A) (es : List B) (at : ℕ) → option_map f o ≡ slice_get es at → at < length es → IsSome o
some_shown f (Some x) es at e within = refl
some_shown f None es at e within = subst IsSome (sym e) (some_there es at within)

entry_none : (test : Vec ℕ Global → Bool) (es : Entries) → lookup test es ≡ None → lookup_entry test es ≡ None
entry_none test [] e = refl
entry_none test (first ∷ es) e = by (test first.0) (entry_none test es) e
  where
    by : (b : Bool) → (lookup test es ≡ None → lookup_entry test es ≡ None) → cond b (Some first.1) (lookup test es) ≡ None → cond b (Some first) (lookup_entry test es) ≡ None
    by true rest e = absurd (true≢false (ap is_some e))
    by false rest e = rest e

-- a new entry that is put and then goes last stands behind all others
pub begun_last : (key : List ℕ) (batches : LruCache (Vec ℕ Global) Messages) (k : Vec ℕ Global) (v : Messages) → k.items ≡ key → lookup (has_key key) batches.entries ≡ None → length batches.entries ≤ batches.cap - 1
    → demoted (has_key key) (put_entries same_key batches k v) ≡ batches.entries ++ (k, v) ∷ []
begun_last key batches k v is absent fits = ap (demoted (has_key key)) put_is ∙ last_is
  where
    put_is : put_entries same_key batches k v ≡ (k, v) ∷ batches.entries
    put_is =
        ap (λ o. option_map_or (λ (e : Vec ℕ Global × Messages). (e.0, v) ∷ remove_entry (same_key k) batches.entries) o ((k, v) ∷ take (batches.cap - 1) batches.entries))
        (subst (λ key. lookup_entry (has_key key) batches.entries ≡ None) (sym is) (entry_none (has_key key) batches.entries absent))
        ∙ ap (λ es. (k, v) ∷ es) (take_all (batches.cap - 1) batches.entries fits)

    last_is : demoted (has_key key) ((k, v) ∷ batches.entries) ≡ batches.entries ++ (k, v) ∷ []
    last_is =
        ap (λ b. option_map_or (λ (e : Vec ℕ Global × Messages). cond b batches.entries ((k, v) ∷ remove_entry (has_key key) batches.entries) ++ e ∷ []) (cond b (Some (k, v)) (lookup_entry (has_key key) batches.entries)) ((k, v) ∷ batches.entries))
        (ap (λ j. bytes_eq j k.items) (sym is) ∙ nat_list_eq_equiv.refl k.items)

-- the room for a copy of each key stays enough
pub room_removed : (capacity capacity' at : ℕ) (old new : LruCache (Vec ℕ Global) Messages) → new.entries ≡ remove old.entries at → new.cap ≡ old.cap → capacity ≤ capacity' → HasRoom capacity old → HasRoom capacity' new
room_removed capacity capacity' at old new e cap more room = record {
  keys = λ k d within. let before = fewer k d within in omega (arith, more, before);
  wide = cap ∙ room.wide;
}
  where
    fewer : All (λ key. length key.items ≤ capacity) (keys_of new.entries)
    fewer =
        subst (All (λ key. length key.items ≤ capacity)) (sym (ap keys_of e ∙ map-remove (λ (x : Vec ℕ Global × Messages). x.0) old.entries at))
        (All-append (λ key. length key.items ≤ capacity) (take at (keys_of old.entries)) (drop (suc at) (keys_of old.entries)) (All-take (λ key. length key.items ≤ capacity) at (keys_of old.entries) room.keys) (All-drop (λ key. length key.items ≤ capacity) (suc at) (keys_of old.entries) room.keys))

pub room_kept : (capacity capacity' : ℕ) (old new : LruCache (Vec ℕ Global) Messages) → keys_of new.entries ≡ keys_of old.entries → new.cap ≡ old.cap → capacity ≤ capacity' → HasRoom capacity old → HasRoom capacity' new
room_kept capacity capacity' old new e cap more room = record {
  keys = subst (All (λ key. length key.items ≤ capacity')) (sym e) (λ k d within. let before = room.keys k d within in omega (arith, more, before));
  wide = cap ∙ room.wide;
}

pub room_begun : (capacity capacity' : ℕ) (old new : LruCache (Vec ℕ Global) Messages) (k : Vec ℕ Global) (v : Messages) → new.entries ≡ old.entries ++ (k, v) ∷ [] → new.cap ≡ old.cap
    → capacity ≤ capacity' → length k.items ≤ capacity' → HasRoom capacity old → HasRoom capacity' new
room_begun capacity capacity' old new k v e cap more fits room = record {
  keys =
      subst (All (λ key. length key.items ≤ capacity')) (sym (ap keys_of e ∙ map-append (λ (x : Vec ℕ Global × Messages). x.0) old.entries ((k, v) ∷ [])))
      (All-append (λ key. length key.items ≤ capacity') (keys_of old.entries) (k ∷ []) (λ k d within. let before = room.keys k d within in omega (arith, more, before)) (All-cons (λ key. length key.items ≤ capacity') k [] fits (All-nil (λ key. length key.items ≤ capacity'))));
  wide = cap ∙ room.wide;
}

pub room_begun_seen : (capacity : ℕ) (key : List ℕ) (old new : LruCache (Vec ℕ Global) Messages) (k : Vec ℕ Global) (v : Messages) → new.entries ≡ old.entries ++ (k, v) ∷ [] → new.cap ≡ old.cap → k.items ≡ key
    → length key ≤ capacity → HasRoom capacity old → HasRoom capacity new
room_begun_seen capacity key old new k v e cap is fits room = room_begun capacity capacity old new k v e cap (omega arith) (subst (λ ks. length ks ≤ capacity) (sym is) fits) room

pub room_taken : (capacity n : ℕ) (old new : LruCache (Vec ℕ Global) Messages) → new.entries ≡ take n old.entries → new.cap ≡ old.cap → HasRoom capacity old → HasRoom capacity new
room_taken capacity n old new e cap room = record {
  keys =
      subst (All (λ key. length key.items ≤ capacity)) (take-map (λ (x : Vec ℕ Global × Messages). x.0) n old.entries ∙ sym (ap keys_of e))
      (All-take (λ key. length key.items ≤ capacity) n (keys_of old.entries) room.keys);
  wide = cap ∙ room.wide;
}

-- a map with no entry
pub room_new : (capacity : ℕ) (batches : LruCache (Vec ℕ Global) Messages) → batches ≡ lru_cache [] (2 ^ 64 - 1) → HasRoom capacity batches
room_new capacity batches e = subst (HasRoom capacity) (sym e) (record { keys = All-nil (λ key. length key.items ≤ capacity); wide = refl })

-- the key at a place fits the room
pub key_fits : (capacity at : ℕ) (batches : LruCache (Vec ℕ Global) Messages) (key : Vec ℕ Global) → HasRoom capacity batches
    → option_map (λ (e : Vec ℕ Global × Messages). e.0) (slice_get batches.entries at) ≡ Some key → length key.items ≤ capacity
key_fits capacity at batches key room there =
    let at_key : slice_get (keys_of batches.entries) at ≡ Some key = slice_get-map (λ (e : Vec ℕ Global × Messages). e.0) batches.entries at ∙ there in
    subst (λ (k : Vec ℕ Global). length k.items ≤ capacity) (get_or_from_slice_get (keys_of batches.entries) at key key at_key)
    (room.keys at key (slice_get_within (keys_of batches.entries) at key at_key))

-- what is read through a reference
pub some_read : (r : Option (MutBor Messages)) (m : Messages) → option_copied_mut r ≡ Some m → IsSome r
some_read None m e = absurd (true≢false (ap is_some (sym e)))
some_read (Some x) m e = refl

pub is_read : (r : Option (MutBor Messages)) (x : MutBor Messages) (m : Messages) → r ≡ Some x → option_copied_mut r ≡ Some m → x.now ≡ m
is_read r x m got e = ap (λ o. unwrap_or o m) (ap option_copied_mut (sym got) ∙ e)

pub room_more : (capacity capacity' : ℕ) (o : Option (LruCache (Vec ℕ Global) Messages)) → capacity ≤ capacity' → IfSome o (HasRoom capacity) → IfSome o (HasRoom capacity')
room_more capacity capacity' None more room = tt
room_more capacity capacity' (Some batches) more room = room_kept capacity capacity' batches batches refl refl more room
