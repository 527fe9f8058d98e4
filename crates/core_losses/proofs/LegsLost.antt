-- The legs of a batch, one lost after the other.
use Rattle.std.proofs.Common.{◌≡◌, ℕ, zero, suc, ◌+◌, ◌<◌, ◌≤◌, List, [], ◌∷◌, map, length, Bool, true, false, refl, ap, sym, ◌∙◌, Some, None, Option, arith, subst, set}
use Rattle.std.specs.Prelude.{slice_get, if◌then◌else◌, not, ◌&&◌, ◌==◌, is_some, IfSome, IsSome}
use Rattle.std.proofs.lemmas.Bool.{eq-eqb}
use Rattle.std.proofs.lemmas.List.{length-map}
use Rattle.std.proofs.Math.Bool.{and-false}
use Rattle.pipe_types.specs.declared.numbers.SubNo.{SubNo}
use Rattle.pipe_types.specs.declared.message.Loss.{Loss}
use Rattle.pipe_model.specs.Batches.{BatchPlace, AtBatcher, Sent, Dropped, Leg, LegPlace, InInbox, AtWork, Answered, LegLost, on_legs, is_settled, is_leg_open}
use Rattle.message_ack.specs.declared.legs.Settled.{Settled}
use Rattle.message_ack.specs.declared.legs.LegEnd.TheVariants.{Lost as LostEnd}
use Rattle.message_ack.specs.Ends.{Ends, ends_of, end_of, sent_in, with_end, IsSettledBy}
use Rattle.core_laws.specs.Columns.{ends_on}
use Rattle.core_losses.specs.Legs.{lose_open, legs_after, lost_at, due_in, EachDue, AreDue, IsOpenEnd, SettledAs}
use Rattle.pipe_model.specs.Standing.{going}

-- the first so many legs were gone over
abbrev pub first_lost : ℕ → (loss : SubNo → Option Loss) → List Leg → List Leg
first_lost zero loss legs = legs
first_lost (suc k) loss [] = []
first_lost (suc k) loss (leg ∷ legs) = record { sub = leg.sub; place = lose_open (loss leg.sub) leg.place } ∷ first_lost k loss legs

abbrev pub legs_upto : ℕ → (loss : SubNo → Option Loss) → BatchPlace → BatchPlace
legs_upto k loss (Sent legs) = Sent (first_lost k loss legs)
legs_upto k loss place = place

each_at : (due loss : SubNo → Option Loss) (legs : List Leg) (k : ℕ) (leg : Leg) → EachDue due loss legs → slice_get legs k ≡ Some leg → due leg.sub ≡ due_in (loss leg.sub) leg.place
each_at due loss [] k leg h e = cc
each_at due loss (x ∷ legs) zero leg h e = let is : x ≡ leg = cc in subst (λ (y : Leg). due y.sub ≡ due_in (loss y.sub) y.place) is h.0
each_at due loss (x ∷ legs) (suc k) leg h e = each_at due loss legs k leg h.1 e

sub_at : (legs : List Leg) (subs : List SubNo) (k : ℕ) (u : SubNo) → map (λ (leg : Leg). leg.sub) legs ≡ subs → slice_get subs k ≡ Some u → (leg : Leg) × (slice_get legs k ≡ Some leg) × (leg.sub ≡ u)
sub_at legs subs k u same e = found legs k (ap (λ us. slice_get us k) same ∙ e)
  where
    found : (legs : List Leg) (k : ℕ) → slice_get (map (λ (leg : Leg). leg.sub) legs) k ≡ Some u → (leg : Leg) × (slice_get legs k ≡ Some leg) × (leg.sub ≡ u)
    found [] k e = cc
    found (x ∷ legs) zero e = let is : x.sub ≡ u = cc in (x, refl, is)
    found (x ∷ legs) (suc k) e = found legs k e

none_at : (due : SubNo → Option Loss) (subs : List SubNo) (k : ℕ) (u : SubNo) → subs ≡ [] → slice_get subs k ≡ Some u → due u ≡ None
none_at due [] k u h e = cc
none_at due (v ∷ subs) k u h e = cc

-- a leg that is due is open
due_open : (o : Option Loss) (p : LegPlace) (l : Loss) → due_in o p ≡ Some l → (end_of p ≡ None) × (is_leg_open p ≡ true)
due_open o InInbox l e = (refl, refl)
due_open o AtWork l e = (refl, refl)
due_open o (Answered os) l e = cc
due_open o (LegLost x) l e = cc

-- one leg more
first_step : (loss : SubNo → Option Loss) (legs : List Leg) (k : ℕ) (leg : Leg) → slice_get legs k ≡ Some leg → first_lost (suc k) loss legs ≡ lost_at k (due_in (loss leg.sub) leg.place) (first_lost k loss legs)
first_step loss [] k leg e = cc
first_step loss (x ∷ legs) zero leg e =
    let is : x ≡ leg = cc in
    subst (λ (y : Leg). record { sub = x.sub; place = lose_open (loss x.sub) x.place } ∷ legs ≡ lost_at 0 (due_in (loss y.sub) y.place) (x ∷ legs)) is (by (loss x.sub) x.place refl)
  where
    by : (o : Option Loss) (p : LegPlace) → x.place ≡ p → record { sub = x.sub; place = lose_open o p } ∷ legs ≡ lost_at 0 (due_in o p) (x ∷ legs)
    by None InInbox f = λ i. record { sub = x.sub; place = sym f i } ∷ legs
    by None AtWork f = λ i. record { sub = x.sub; place = sym f i } ∷ legs
    by None (Answered os) f = λ i. record { sub = x.sub; place = sym f i } ∷ legs
    by None (LegLost l) f = λ i. record { sub = x.sub; place = sym f i } ∷ legs
    by (Some l) InInbox f = refl
    by (Some l) AtWork f = refl
    by (Some l) (Answered os) f = λ i. record { sub = x.sub; place = sym f i } ∷ legs
    by (Some l) (LegLost m) f = λ i. record { sub = x.sub; place = sym f i } ∷ legs
first_step loss (x ∷ legs) (suc k) leg e =
    let head : Leg = record { sub = x.sub; place = lose_open (loss x.sub) x.place } in
    ap (λ ls. head ∷ ls) (first_step loss legs k leg e) ∙ behind head (due_in (loss leg.sub) leg.place) (first_lost k loss legs)
  where
    behind : (head : Leg) (o : Option Loss) (ls : List Leg) → head ∷ lost_at k o ls ≡ lost_at (suc k) o (head ∷ ls)
    behind head None ls = refl
    behind head (Some l) ls = refl

-- the next leg is as it was
first_end : (loss : SubNo → Option Loss) (legs : List Leg) (k : ℕ) (leg : Leg) → slice_get legs k ≡ Some leg → slice_get (ends_of (first_lost k loss legs)) k ≡ Some (end_of leg.place)
first_end loss [] k leg e = cc
first_end loss (x ∷ legs) zero leg e = let is : x ≡ leg = cc in ap (λ (y : Leg). Some (end_of y.place)) is
first_end loss (x ∷ legs) (suc k) leg e = first_end loss legs k leg e

first_open : (loss : SubNo → Option Loss) (legs : List Leg) (k : ℕ) (leg : Leg) → slice_get legs k ≡ Some leg → is_leg_open leg.place ≡ true → is_settled (first_lost k loss legs) ≡ false
first_open loss [] k leg e h = cc
first_open loss (x ∷ legs) zero leg e h = let is : x ≡ leg = cc in ap (λ b. not b && is_settled legs) (ap (λ (y : Leg). is_leg_open y.place) is ∙ h)
first_open loss (x ∷ legs) (suc k) leg e h = ap (λ b. not (is_leg_open (lose_open (loss x.sub) x.place)) && b) (first_open loss legs k leg e h) ∙ and-false (not (is_leg_open (lose_open (loss x.sub) x.place)))

unsettled : (legs : List Leg) (k : ℕ) (leg : Leg) → slice_get legs k ≡ Some leg → is_leg_open leg.place ≡ true → is_settled legs ≡ false
unsettled [] k leg e h = cc
unsettled (x ∷ legs) zero leg e h = let is : x ≡ leg = cc in ap (λ b. not b && is_settled legs) (ap (λ (y : Leg). is_leg_open y.place) is ∙ h)
unsettled (x ∷ legs) (suc k) leg e h = ap (λ b. not (is_leg_open x.place) && b) (unsettled legs k leg e h) ∙ and-false (not (is_leg_open x.place))

first_all : (loss : SubNo → Option Loss) (legs : List Leg) (k : ℕ) → length legs ≤ k → first_lost k loss legs ≡ on_legs (λ u p. lose_open (loss u) p) legs
first_all loss [] zero h = refl
first_all loss [] (suc k) h = refl
first_all loss (x ∷ legs) zero h = absurd (omega arith)
first_all loss (x ∷ legs) (suc k) h = ap (λ ls. record { sub = x.sub; place = lose_open (loss x.sub) x.place } ∷ ls) (first_all loss legs k (omega arith))

pub upto_all : (k : ℕ) (loss : SubNo → Option Loss) (due : SubNo → Option Loss) (subs : List SubNo) (p : BatchPlace) → AreDue due loss subs p → length subs ≤ k → legs_upto k loss p ≡ legs_after loss p
upto_all k loss due subs (AtBatcher s) h all = refl
upto_all k loss due subs (Dropped l) h all = refl
upto_all k loss due subs (Sent legs) h all = ap Sent (first_all loss legs k (omega (arith, all, length-map legs (λ (leg : Leg). leg.sub), ap length h.0)))

-- One turn

-- a leg that is lost
ends_set : (leg : ℕ) (loss : Loss) (ls : List Leg) → ends_of (lost_at leg (Some loss) ls) ≡ set (ends_of ls) leg (Some (LostEnd loss))
ends_set zero loss [] = refl
ends_set (suc k) loss [] = refl
ends_set zero loss (x ∷ ls) = refl
ends_set (suc k) loss (x ∷ ls) = ap (λ es. end_of x.place ∷ es) (ends_set k loss ls)

-- the batch as its legs say
record IsGoing (ends : Option Ends) (leg m : ℕ) (ls : List Leg) : Type 0 where
  open_yet : is_settled ls ≡ false
  is : ends ≡ Some (record { messages = m; ends = ends_of ls })

is_going : (ends : Option Ends) (leg m : ℕ) (ls : List Leg) → IsOpenEnd ends leg → ends ≡ ends_on m (Sent ls) → IsGoing ends leg m ls
is_going ends leg m ls o e = by (is_settled ls) refl
  where
    by : (b : Bool) → is_settled ls ≡ b → IsGoing ends leg m ls
    by true f = absurd (none_there ends o.there (e ∙ ap (λ b. if b then None else Some (record { messages = m; ends = ends_of ls })) f))
      where
        none_there : (x : Option Ends) → IsSome x → x ≡ None → ⊥
        none_there None h k = cc
        none_there (Some y) h k = cc
    by false f = record { open_yet = f; is = e ∙ ap (λ b. if b then None else Some (record { messages = m; ends = ends_of ls })) f }

pub last_turn : (old : List (ℕ × Ends)) (number leg : ℕ) (loss : Loss) (result : Option Settled) (m : ℕ) (ls : List Leg) → IsOpenEnd (sent_in old number) leg
    → IfSome (with_end (sent_in old number) leg (LostEnd loss)) (λ b. (legs : List Leg) → ends_of legs ≡ b.ends → is_some result ≡ is_settled legs)
    → sent_in old number ≡ ends_on m (Sent ls) → is_some result ≡ is_settled (lost_at leg (Some loss) ls)
last_turn old number leg loss result m ls o claim e =
    let g = is_going (sent_in old number) leg m ls o e in
    let c = subst (λ (x : Option Ends). IfSome (with_end x leg (LostEnd loss)) (λ b. (legs : List Leg) → ends_of legs ≡ b.ends → is_some result ≡ is_settled legs)) g.is claim in
    c (lost_at leg (Some loss) ls) (ends_set leg loss ls)

pub ends_turn : (old : List (ℕ × Ends)) (number leg : ℕ) (loss : Loss) (result : Option Settled) (m : ℕ) (ls : List Leg) → IsOpenEnd (sent_in old number) leg
    → IfSome (with_end (sent_in old number) leg (LostEnd loss)) (λ b. (legs : List Leg) → ends_of legs ≡ b.ends → IfSome result (IsSettledBy b.messages legs))
    → sent_in old number ≡ ends_on m (Sent ls) → IfSome result (IsSettledBy m (lost_at leg (Some loss) ls))
ends_turn old number leg loss result m ls o claim e =
    let g = is_going (sent_in old number) leg m ls o e in
    let c = subst (λ (x : Option Ends). IfSome (with_end x leg (LostEnd loss)) (λ b. (legs : List Leg) → ends_of legs ≡ b.ends → IfSome result (IsSettledBy b.messages legs))) g.is claim in
    c (lost_at leg (Some loss) ls) (ends_set leg loss ls)

pub kept_turn : (old new : List (ℕ × Ends)) (number leg : ℕ) (loss : Loss) (result : Option Settled) (m : ℕ) (ls : List Leg) → IsOpenEnd (sent_in old number) leg
    → is_some result ≡ is_settled (lost_at leg (Some loss) ls)
    → ((b : ℕ) → sent_in new b ≡ (if b == number then (if is_some result then None else with_end (sent_in old b) leg (LostEnd loss)) else sent_in old b))
    → sent_in old number ≡ ends_on m (Sent ls) → sent_in new number ≡ ends_on m (Sent (lost_at leg (Some loss) ls))
kept_turn old new number leg loss result m ls o last kept e =
    let g = is_going (sent_in old number) leg m ls o e in
    kept number
    ∙ (ap (λ b. if b then (if is_some result then None else with_end (sent_in old number) leg (LostEnd loss)) else sent_in old number) (eq-eqb number number refl)
    ∙ (ap (λ x. if is_some result then None else with_end x leg (LostEnd loss)) g.is
    ∙ (ap (λ es. if is_some result then None else Some (record { messages = m; ends = es })) (sym (ends_set leg loss ls))
    ∙ ap (λ b. if b then None else Some (record { messages = m; ends = ends_of (lost_at leg (Some loss) ls) })) last)))

pub not_not : (a : Bool) → not (not a) ≡ a
not_not true = refl
not_not false = refl

-- The loop

abbrev pub DueAt : (due loss : SubNo → Option Loss) → BatchPlace → (leg : ℕ) → SubNo → Type 0
DueAt due loss (Sent legs) k u = (leg : Leg) × (slice_get legs k ≡ Some leg) × (due u ≡ due_in (loss leg.sub) leg.place) × (length legs ≤ 64)
DueAt due loss _ k u = due u ≡ None

pub due_at : (due loss : SubNo → Option Loss) (subs : List SubNo) (p : BatchPlace) (k : ℕ) (u : SubNo) → AreDue due loss subs p → slice_get subs k ≡ Some u → DueAt due loss p k u
due_at due loss subs (AtBatcher s) k u h e = none_at due subs k u h e
due_at due loss subs (Dropped l) k u h e = none_at due subs k u h e
due_at due loss subs (Sent legs) k u h e =
    let found = sub_at legs subs k u h.0 e in
    (found.0, found.1, ap due (sym found.2) ∙ each_at due loss legs k found.0 h.2 found.1, h.1)

index_low : {A : Type 0} (xs : List A) (k : ℕ) (x : A) → slice_get xs k ≡ Some x → k < length xs
index_low [] k x e = cc
index_low (y ∷ xs) zero x e = omega arith
index_low (y ∷ xs) (suc k) x e = let low = index_low xs k x e in omega (arith, low)

pub turn_open : (ends : Option Ends) (m : ℕ) (due loss : SubNo → Option Loss) (p : BatchPlace) (k : ℕ) (u : SubNo) (x : Option Loss) → DueAt due loss p k u → x ≡ due u → ends ≡ ends_on m (legs_upto k loss p)
    → IfSome x (λ l. IsOpenEnd ends k)
turn_open ends m due loss p k u x d is e = by p d e
  where
    lost : (p : BatchPlace) → DueAt due loss p k u → ends ≡ ends_on m (legs_upto k loss p) → (l : Loss) → x ≡ Some l → IsOpenEnd ends k
    lost (AtBatcher s) d e l f = let wrong : ◌≡◌ {A = Option Loss} None (Some l) = sym (is ∙ d) ∙ f in cc
    lost (Dropped o) d e l f = let wrong : ◌≡◌ {A = Option Loss} None (Some l) = sym (is ∙ d) ∙ f in cc
    lost (Sent legs) d e l f =
        let opened = due_open (loss d.0.sub) d.0.place l (sym (is ∙ d.2) ∙ f) in
        let going_on : is_settled (first_lost k loss legs) ≡ false = first_open loss legs k d.0 d.1 opened.1 in
        let has : ends ≡ Some (record { messages = m; ends = ends_of (first_lost k loss legs) }) = e ∙ ap (λ b. if b then None else Some (record { messages = m; ends = ends_of (first_lost k loss legs) })) going_on in
        let end : slice_get (ends_of (first_lost k loss legs)) k ≡ Some None = first_end loss legs k d.0 d.1 ∙ ap Some opened.0 in
        let low = index_low legs k d.0 d.1 in
        record {
          there = subst (λ (o : Option Ends). IsSome o) (sym has) refl;
          unended = subst (λ (o : Option Ends). IfSome o (λ b. slice_get b.ends k ≡ Some None)) (sym has) end;
          low = omega (arith, low, d.3);
        }

    by : (p : BatchPlace) → DueAt due loss p k u → ends ≡ ends_on m (legs_upto k loss p) → IfSome x (λ l. IsOpenEnd ends k)
    by p d e = some x (λ l f. lost p d e l f)
      where
        some : (o : Option Loss) → ((l : Loss) → o ≡ Some l → IsOpenEnd ends k) → IfSome o (λ l. IsOpenEnd ends k)
        some None h = tt
        some (Some l) h = h l refl

next_lost : (loss : SubNo → Option Loss) (legs : List Leg) (k : ℕ) (leg : Leg) (x o : Option Loss) → slice_get legs k ≡ Some leg → x ≡ due_in (loss leg.sub) leg.place → lost_at k x (first_lost k loss legs) ≡ first_lost (k + 1) loss legs
next_lost loss legs k leg x o e is =
    let more : suc k ≡ k + 1 = omega arith in
    ap (λ y. lost_at k y (first_lost k loss legs)) is ∙ (sym (first_step loss legs k leg e) ∙ ap (λ j. first_lost j loss legs) more)

pub turn_kept : (old new : Option Ends) (m : ℕ) (due loss : SubNo → Option Loss) (p : BatchPlace) (k : ℕ) (u : SubNo) (x : Option Loss) → DueAt due loss p k u → x ≡ due u
    → ((m : ℕ) (ls : List Leg) → old ≡ ends_on m (Sent ls) → new ≡ ends_on m (Sent (lost_at k x ls)))
    → old ≡ ends_on m (legs_upto k loss p) → new ≡ ends_on m (legs_upto (k + 1) loss p)
turn_kept old new m due loss (AtBatcher s) k u x d is turned e = turned m [] e ∙ ap (λ o. ends_on m (Sent (lost_at k o []))) (is ∙ d)
turn_kept old new m due loss (Dropped l) k u x d is turned e = turned m [] e ∙ ap (λ o. ends_on m (Sent (lost_at k o []))) (is ∙ d)
turn_kept old new m due loss (Sent legs) k u x d is turned e = turned m (first_lost k loss legs) e ∙ ap (λ ls. ends_on m (Sent ls)) (next_lost loss legs k d.0 x None d.1 (is ∙ d.2))

pub turn_last : (old : Option Ends) (m : ℕ) (due loss : SubNo → Option Loss) (p : BatchPlace) (k : ℕ) (u : SubNo) (x : Option Loss) (result settled : Option Settled) → DueAt due loss p k u → x ≡ due u
    → ((m : ℕ) (ls : List Leg) → old ≡ ends_on m (Sent ls) → is_some result ≡ (if is_some x then not (going (Sent (lost_at k x ls))) else is_some settled))
    → old ≡ ends_on m (legs_upto k loss p) → is_some settled ≡ (going p && not (going (legs_upto k loss p))) → is_some result ≡ (going p && not (going (legs_upto (k + 1) loss p)))
turn_last old m due loss (AtBatcher s) k u x result settled d is last e was = last m [] e ∙ (ap (λ o. if is_some o then not (going (Sent (lost_at k o []))) else is_some settled) (is ∙ d) ∙ was)
turn_last old m due loss (Dropped l) k u x result settled d is last e was = last m [] e ∙ (ap (λ o. if is_some o then not (going (Sent (lost_at k o []))) else is_some settled) (is ∙ d) ∙ was)
turn_last old m due loss (Sent legs) k u x result settled d is last e was =
    last m (first_lost k loss legs) e ∙ (by x refl ∙ ap (λ ls. going (Sent legs) && not (going (Sent ls))) (next_lost loss legs k d.0 x None d.1 (is ∙ d.2)))
  where
    by : (o : Option Loss) → x ≡ o
        → (if is_some o then not (going (Sent (lost_at k o (first_lost k loss legs)))) else is_some settled) ≡ (going (Sent legs) && not (going (Sent (lost_at k o (first_lost k loss legs)))))
    by None f = was
    by (Some l) f =
        let opened = due_open (loss d.0.sub) d.0.place l (sym (is ∙ d.2) ∙ f) in
        ap (λ b. not b && not (going (Sent (lost_at k (Some l) (first_lost k loss legs))))) (sym (unsettled legs k d.0 d.1 opened.1))

pub turn_settled : (old : Option Ends) (m : ℕ) (due loss : SubNo → Option Loss) (p : BatchPlace) (k : ℕ) (u : SubNo) (x : Option Loss) (result settled : Option Settled) → DueAt due loss p k u → x ≡ due u
    → ((m : ℕ) (ls : List Leg) → old ≡ ends_on m (Sent ls) → is_some x ≡ true → IfSome result (SettledAs m (Sent (lost_at k x ls)))) → (x ≡ None → result ≡ settled)
    → old ≡ ends_on m (legs_upto k loss p) → IfSome settled (SettledAs m (legs_upto k loss p)) → IfSome result (SettledAs m (legs_upto (k + 1) loss p))
turn_settled old m due loss (AtBatcher s) k u x result settled d is ends none e was = subst (λ (o : Option Settled). IfSome o (λ y. Unit {0})) (sym (none (is ∙ d))) was
turn_settled old m due loss (Dropped l) k u x result settled d is ends none e was = subst (λ (o : Option Settled). IfSome o (λ y. Unit {0})) (sym (none (is ∙ d))) was
turn_settled old m due loss (Sent legs) k u x result settled d is ends none e was = by x refl
  where
    at : lost_at k x (first_lost k loss legs) ≡ first_lost (k + 1) loss legs
    at = next_lost loss legs k d.0 x None d.1 (is ∙ d.2)

    by : (o : Option Loss) → x ≡ o → IfSome result (SettledAs m (Sent (first_lost (k + 1) loss legs)))
    by None f =
        let same : first_lost k loss legs ≡ first_lost (k + 1) loss legs = sym (ap (λ y. lost_at k y (first_lost k loss legs)) f) ∙ at in
        subst (λ (o : Option Settled). IfSome o (SettledAs m (Sent (first_lost (k + 1) loss legs)))) (sym (none f)) (subst (λ (ls : List Leg). IfSome settled (SettledAs m (Sent ls))) same was)
    by (Some l) f = subst (λ (ls : List Leg). IfSome result (SettledAs m (Sent ls))) at (ends m (first_lost k loss legs) e (ap is_some f))
