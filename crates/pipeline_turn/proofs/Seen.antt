-- A seat's view in the table, and the same as contracts see it.
use Rattle.std.proofs.Common.{◌≡◌, ◌≢◌, true, List, refl, sym, ap, ◌∙◌, subst, Option, Some, None, IfSome, IsSome}
use Rattle.std.proofs.lemmas.Bool.{false≢true}
use Rattle.atomic_table.specs.Seated.{TableId}
use Rattle.pipe_types.specs.declared.numbers.Post.{Post}
use Rattle.pipe_model.specs.History.{History}
use Rattle.pipe_model.specs.Begins.{BeginsWith}
use Rattle.pipe_model.specs.Posts.{is_out}
use Rattle.pipeline_turn.specs.declared.view.View.{View}
use Rattle.pipeline_turn.specs.declared.view.Handed.{Handed}
use Rattle.pipeline_turn.specs.Jobs.{IsUnanswered, IsOwnJob, AreAway}
use Rattle.pipeline_turn.specs.Seats.{SeatView, seat_view, the}
use Rattle.pipeline_turn.proofs.Handing.{Some-injective, MayGive, stems_there}

module _ {O : Type 0} where
  the_is : (x : Option O) (b : IsSome x) → x ≡ Some (the x b)
  the_is (Some o) b = refl
  the_is None b = absurd (false≢true b)

  the_same : (x y : Option O) (b : IsSome x) (c : IsSome y) → x ≡ y → the x b ≡ the y c
  the_same x y b c e = Some-injective (the x b) (the y c) (sym (the_is x b) ∙ (e ∙ the_is y c))

  -- a seat whose table and view are the same is seen the same
  pub same_seat : (t u : TableId) (v w : View O) (b : IsSome v.origin) (c : IsSome w.origin) → t ≡ u → v ≡ w → seat_view t v (the v.origin b) ≡ seat_view u w (the w.origin c)
  same_seat t u v w b c e f =
      let o : the v.origin b ≡ the w.origin c = the_same v.origin w.origin b c (ap (λ (z : View O). z.origin) f) in
      λ k. seat_view (e k) (f k) (o k)

  -- what stems from the seat's origin stems from the view's
  pub stems_seen : {V : Type 0} (steps : V → History) (stems : O → V → Type 0) (away : V → List Post) (t : TableId) (v : View O) (b : IsSome v.origin) (seat : SeatView O) (value : V)
      → seat_view t v (the v.origin b) ≡ seat → stems seat.origin value → (origin : O) → v.origin ≡ Some origin → stems origin value
  stems_seen steps stems away t v b seat value e from =
      stems_there steps stems away v (the v.origin b) value (the_is v.origin b) (subst (λ (z : O). stems z value) (sym (ap (λ (z : SeatView O). z.origin) e)) from)

  pub gives_seen : {V : Type 0} (steps : V → History) (stems : O → V → Type 0) (away : V → List Post) (t : TableId) (v : View O) (o : O) (seat : SeatView O) (h : Handed V) → seat_view t v o ≡ seat
      → BeginsWith (steps h.value) seat.seen → ((post : Post) → is_out seat.seen post ≡ true → seat.job ≢ Some post → IsUnanswered (steps h.value) seat.seen post)
      → IfSome h.job (λ post. IsOwnJob seat.job seat.seen (steps h.value) post) → AreAway seat.job h.job seat.away (away h.value) → MayGive steps stems away v h
  gives_seen steps stems away t v o seat h e =
      let P : SeatView O → Type 0 = λ z. BeginsWith (steps h.value) z.seen → ((post : Post) → is_out z.seen post ≡ true → z.job ≢ Some post → IsUnanswered (steps h.value) z.seen post)
      → IfSome h.job (λ post. IsOwnJob z.job z.seen (steps h.value) post) → AreAway z.job h.job z.away (away h.value) → MayGive steps stems away v h in
      subst P e (λ begins others job bodies. record { begins = begins; others = others; job = job; bodies = bodies })
