-- What a change of one view leaves of the rule.
use Rattle.std.proofs.Common.{◌≡◌, ◌≢◌, ⊎_elim, ℕ, ◌+◌, List, [], ◌∷◌, ◌++◌, set, slice_index, refl, sym, ap, ◌∙◌, subst, arith, Option, Some, None, false, Contains}
use Rattle.std.proofs.lemmas.Option.{none-some}
use Rattle.std.proofs.lemmas.Bool.{false≢true}
use mathlib.Core.Option.{some}
use mathlib.Core.Logic.{dite}
use native.Mathlib.Decide.{ℕ_discrete}
use lib.ListN.{get_elem?}
use Rattle.atomic_table.specs.Table.{State, Act, stepped, Valid, carried_after, Allows}
use Rattle.atomic_table.proofs.Lists.{at_set, set_else, at_longer, at_snoc}
use Rattle.pipe_types.specs.declared.numbers.Post.{Post}
use Rattle.pipe_model.specs.History.{History}
use Rattle.pipeline_turn.specs.declared.view.View.{View}
use Rattle.pipeline_turn.specs.declared.view.Handed.{Handed}
use Rattle.pipeline_turn.specs.Rule.{Place, home, lent, words_of, homes_of, gone, Stems, Holds, HasHolder, IsJob, total, Fits, AreSeated, IsRuled}
use Rattle.pipeline_turn.specs.Steps.{Knows}
use Rattle.pipeline_turn.proofs.Views.{put_here, only, total_set, total_snoc}

module _ {V O : Type 0} (steps : V → History) (stems : O → V → Type 0) (away : V → List Post) where
  abbrev pub At : Place V → List ℕ → List (View O) → State (Option (Handed V)) (View O)
  At p counts vs = record { words = words_of p counts; homes = homes_of p; views = vs }

  abbrev pub F : Place V → O → ℕ → View O → Type 0
  F = Fits steps stems away

  abbrev pub R : ℕ → Place V → O → List (View O) → Type 0
  R = AreSeated steps stems away

  abbrev pub Rule : ℕ → State (Option (Handed V)) (View O) → Type 0
  Rule = IsRuled steps stems away

  is_at : (n : ℕ) (s : State (Option (Handed V)) (View O)) (r : Rule n s) → At r.place r.counts s.views ≡ s
  is_at n s r = λ i. record { words = sym r.words i; homes = sym r.homes i; views = s.views }

  pub ruled : (n : ℕ) (counts : List ℕ) (p : Place V) (o : O) (vs : List (View O)) → Stems stems o p → R n p o vs → Rule n (At p counts vs)
  ruled n counts p o vs st r = record { place = p; origin = o; counts = counts; words = refl; homes = refl; stemmed = st; seated = r }

  -- the holder is still there
  pub still_there : (p : Place V) (vs : List (View O)) (id : ℕ) (v w : View O) → get_elem? vs id ≡ some v → v.holds ≡ false → HasHolder p vs → HasHolder p (set vs id w)
  still_there (home h) vs id v w here free t = tt
  still_there (lent i taken posts) vs id v w here free t =
      (t.0, set_else vs id i w (λ e. false≢true (sym free ∙ (ap (λ (z : View O). z.holds) (only vs id v t.0 here (ap (get_elem? vs) (sym e) ∙ t.1)) ∙ t.2))) ∙ t.1, t.2)

  -- the job of a view is one still, where the view that changes keeps its own
  pub still_a_job : (vs : List (View O)) (id : ℕ) (v w : View O) (post : Post) → get_elem? vs id ≡ some v → w.job ≡ v.job → IsJob vs post → IsJob (set vs id w) post
  still_a_job vs id v w post here same t = dite (ℕ_discrete t.0 id)
      (λ e. (id, w, put_here vs id w v here, same ∙ (ap (λ (z : View O). z.job) (only vs id v t.1 here (ap (get_elem? vs) (sym e) ∙ t.2)) ∙ t.3)))
      (λ no. (t.0, t.1, set_else vs id t.0 w no ∙ t.2, t.3))

  -- one view changes, and maybe the place
  pub one : (n m : ℕ) (p q : Place V) (o : O) (vs : List (View O)) (id : ℕ) (v w : View O) → R n p o vs → get_elem? vs id ≡ some v → HasHolder q (set vs id w) → m + v.parts ≡ n + w.parts → F q o id w
      → ((j : ℕ) (u : View O) → j ≢ id → get_elem? vs j ≡ some u → F p o j u → F q o j u)
      → ((j : ℕ) (u : View O) (post : Post) → j ≢ id → get_elem? vs j ≡ some u → w.job ≡ Some post → u.job ≢ Some post)
      → ((post : Post) → Contains (gone away q) post → IsJob (set vs id w) post)
      → R m q o (set vs id w)
  one n m p q o vs id v w r here holder' count mine others jobs owned = record {
    holder = holder';
    sum = (let t = total_set vs id v w here in let e : total vs ≡ n = r.sum in omega arith);
    each = λ j u e. ⊎_elim (λ (t : (j ≡ id) × (w ≡ u)). subst (λ (z : ℕ × View O). F q o z.0 z.1) (λ i. (sym t.0 i, t.1 i)) mine) (λ (t : (j ≢ id) × (get_elem? vs j ≡ some u)). others j u t.0 t.1 (r.each j u t.1)) (at_set vs id j w u e);
    apart = λ i j a b post n' ea eb. ⊎_elim
        (λ (s : (i ≡ id) × (w ≡ a)). ⊎_elim (λ (t : (j ≡ id) × (w ≡ b)). absurd (n' (s.0 ∙ sym t.0)))
        (λ (t : (j ≢ id) × (get_elem? vs j ≡ some b)). λ ja. jobs j b post t.0 t.1 (ap (λ (z : View O). z.job) s.1 ∙ ja)) (at_set vs id j w b eb))
        (λ (s : (i ≢ id) × (get_elem? vs i ≡ some a)). ⊎_elim (λ (t : (j ≡ id) × (w ≡ b)). λ ja jb. jobs i a post s.0 s.1 (ap (λ (z : View O). z.job) t.1 ∙ jb) ja)
        (λ (t : (j ≢ id) × (get_elem? vs j ≡ some b)). r.apart i j a b post n' s.1 t.1) (at_set vs id j w b eb))
        (at_set vs id i w a ea);
    owned = owned;
  }

  pub same_jobs : (n : ℕ) (p : Place V) (o : O) (vs : List (View O)) (id : ℕ) (v w : View O) → R n p o vs → get_elem? vs id ≡ some v → w.job ≡ v.job
      → (j : ℕ) (u : View O) (post : Post) → j ≢ id → get_elem? vs j ≡ some u → w.job ≡ Some post → u.job ≢ Some post
  same_jobs n p o vs id v w r here same j u post other at_j job = r.apart id j v u post (λ e. other (sym e)) here at_j (sym same ∙ job)

  -- one view changes, but for its job, and nothing else
  pub one_still : (n m : ℕ) (p : Place V) (o : O) (vs : List (View O)) (id : ℕ) (v w : View O) → R n p o vs → get_elem? vs id ≡ some v → v.holds ≡ false → w.job ≡ v.job → m + v.parts ≡ n + w.parts → F p o id w
      → R m p o (set vs id w)
  one_still n m p o vs id v w r here free same count mine =
      one n m p p o vs id v w r here (still_there p vs id v w here free r.holder) count mine (λ j u other at_j g. g) (same_jobs n p o vs id v w r here same)
      (λ post c. still_a_job vs id v w post here same (r.owned post c))

  -- a step of the seat id, which finds the word i and sets it to f of that
  abbrev pub Done : ℕ → ℕ → Knows V O → ℕ → (ℕ → ℕ) → (ℕ → Knows V O → Type 0) → State (Option (Handed V)) (View O) → Type 0
  Done n id me i f then s =
      (w : View O) × (a : Act (Option (Handed V))) × Valid s.homes me.1 a × Rule n (stepped s i (f (slice_index s.words i)) id me.1 w a) × then (slice_index s.words i) (w, carried_after me.1 a)

  -- it is enough to look at the places
  pub placed : (n slots id : ℕ) (me : Knows V O) (i : ℕ) (f : ℕ → ℕ) (then : ℕ → Knows V O → Type 0)
      → ((p : Place V) (counts : List ℕ) (o : O) (vs : List (View O)) → Stems stems o p → R n p o vs → get_elem? vs id ≡ some me.0 → Done n id me i f then (At p counts vs)) → Allows (Rule n) slots id me i f then
  placed n slots id me i f then k s r deep here small = subst (Done n id me i f then) (is_at n s r) (k r.place r.counts r.origin s.views r.stemmed r.seated here)

  -- a seat without the value fits wherever it is
  pub free_holds : (p : Place V) (seat : ℕ) (v : View O) → v.holds ≡ false → Holds p seat v
  free_holds (home h) seat v free = free
  free_holds (lent i taken posts) seat v free = λ e. absurd (false≢true (sym free ∙ e))

  longer_there : (p : Place V) (vs : List (View O)) (w : View O) → HasHolder p vs → HasHolder p (vs ++ w ∷ [])
  longer_there (home h) vs w t = tt
  longer_there (lent i taken posts) vs w t = (t.0, at_longer vs (w ∷ []) i t.0 t.1, t.2)

  -- a view without a job comes behind the others
  pub snoc : (n : ℕ) (p : Place V) (o : O) (vs : List (View O)) (w : View O) → R n p o vs → w.job ≡ None → ((j : ℕ) → F p o j w) → R (n + w.parts) p o (vs ++ w ∷ [])
  snoc n p o vs w r idle fits = record {
    holder = longer_there p vs w r.holder;
    sum = (let t = total_snoc vs w in let e : total vs ≡ n = r.sum in omega arith);
    each = λ j u e. ⊎_elim (λ (t : get_elem? vs j ≡ some u). r.each j u t) (λ (t : w ≡ u). subst (λ (z : View O). F p o j z) t (fits j)) (at_snoc vs w u j e);
    apart = λ i j a b post n' ea eb ja jb. ⊎_elim
        (λ (s : get_elem? vs i ≡ some a). ⊎_elim (λ (t : get_elem? vs j ≡ some b). r.apart i j a b post n' s t ja jb) (λ (t : w ≡ b). none-some post (sym idle ∙ (ap (λ (z : View O). z.job) t ∙ jb))) (at_snoc vs w b j eb))
        (λ (s : w ≡ a). none-some post (sym idle ∙ (ap (λ (z : View O). z.job) s ∙ ja))) (at_snoc vs w a i ea);
    owned = λ post c. let t = r.owned post c in (t.0, t.1, at_longer vs (w ∷ []) t.0 t.1 t.2, t.3);
  }
