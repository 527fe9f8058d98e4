-- What lines that are written and held make of what the sink got.
use Rattle.std.proofs.Common.{◌≡◌, ℕ, ◌<◌, ◌≤◌, List, [], ◌∷◌, ◌++◌, length, take, drop, false, refl, ap, sym, ◌∙◌, Some, None, Option, arith}
use Rattle.std.specs.Prelude.{if◌then◌else◌, nat_lt, slice_get, is_some, unwrap_or}
use Rattle.std.proofs.lemmas.Bool.{false_from_ne_true, lt-ltb, ltb-true}
use Rattle.std.proofs.lemmas.List.{append_assoc, take-append-drop, take_all, drop-append-le}
use Rattle.std.proofs.lemmas.List.Concat.{flat_map-append}
use Rattle.ack_feed.specs.Fed.{text_of, IsFed}
use Rattle.ack_feed.specs.Lines.{room_made}

abbrev Text : Type 0
Text = List ℕ

-- the first line of those that are held, and the others
pub first_is : (lines : List Text) (line : Text) → slice_get lines 0 ≡ Some line → lines ≡ line ∷ drop 1 lines
first_is [] line e = cc
first_is (l ∷ lines) line e = let same : l ≡ line = cc in ap (λ x. x ∷ lines) same

-- so many bytes of the first line went out, and are still to be let go
pub put_part : (begun : Text) (sent lines : List Text) (held held' line : Text) (w : ℕ) → lines ≡ line ∷ drop 1 lines → w ≤ length line → held' ≡ held ++ take w line
    → IsFed begun sent held (text_of lines) → IsFed begun sent held' (drop w (text_of lines))
put_part begun sent lines held held' line w first within put fed = (
  fed.0 ++ take w line,
  put ∙ (ap (λ h. h ++ take w line) fed.1 ∙ append_assoc begun fed.0 (take w line)),
  append_assoc fed.0 (take w line) (drop w (text_of lines)) ∙ (ap (λ t. fed.0 ++ t) parts ∙ fed.2),
)
  where
    rest : Text
    rest = text_of (drop 1 lines)

    all : text_of lines ≡ line ++ rest
    all = ap text_of first

    parts : take w line ++ drop w (text_of lines) ≡ text_of lines
    parts =
        ap (λ t. take w line ++ drop w t) all
        ∙ (ap (λ t. take w line ++ t) (drop-append-le w line rest within)
        ∙ (sym (append_assoc (take w line) (drop w line) rest) ∙ (ap (λ t. t ++ rest) (take-append-drop w line) ∙ sym all)))

-- all of the first line went out, and it is let go
pub put_whole : (begun : Text) (sent lines : List Text) (held held' line : Text) → lines ≡ line ∷ drop 1 lines → held' ≡ held ++ take (length line) line
    → IsFed begun sent held (text_of lines) → IsFed begun sent held' (text_of (drop 1 lines))
put_whole begun sent lines held held' line first put fed = (
  fed.0 ++ line,
  put ∙ (ap (λ t. held ++ t) (take_all (length line) line (omega arith)) ∙ (ap (λ h. h ++ line) fed.1 ∙ append_assoc begun fed.0 line)),
  append_assoc fed.0 line (text_of (drop 1 lines)) ∙ (ap (λ t. fed.0 ++ t) (sym (ap text_of first)) ∙ fed.2),
)

-- a line is held behind the others
pub push_fed : (begun : Text) (sent lines : List Text) (held line : Text) → IsFed begun sent held (text_of lines) → IsFed begun (sent ++ line ∷ []) held (text_of (lines ++ line ∷ []))
push_fed begun sent lines held line fed = (
  fed.0,
  fed.1,
  ap (λ t. fed.0 ++ t) (flat_map-append (λ (l : Text). l) lines (line ∷ []))
      ∙ (sym (append_assoc fed.0 (text_of lines) (line ++ []))
      ∙ (ap (λ t. t ++ (line ++ [])) fed.2 ∙ sym (flat_map-append (λ (l : Text). l) sent (line ∷ [])))),
)

-- until a write fails, all of the lines that are held is still to be written
pub all_pending : (fault : Option ℕ) (text : Text) → is_some fault ≡ false → drop (unwrap_or fault 0) text ≡ text
all_pending None text e = refl
all_pending (Some w) text e = cc

-- Room for one more

pub room_left : (room : ℕ) (lines : List Text) → length lines < room → lines ≡ room_made room lines
room_left room lines low = ap (λ b. if b then lines else drop 1 lines) (sym (lt-ltb (length lines) room low))

pub room_gone : (room : ℕ) (lines : List Text) → room ≤ length lines → drop 1 lines ≡ room_made room lines
room_gone room lines high = ap (λ b. if b then lines else drop 1 lines) (sym full)
  where
    full : nat_lt (length lines) room ≡ false
    full = false_from_ne_true (nat_lt (length lines) room) (λ h. let low : length lines < room = ltb-true (length lines) room h in omega (arith, low, high))
