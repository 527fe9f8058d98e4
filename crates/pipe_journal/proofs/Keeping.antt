-- What a kept reply stands for, whatever is put on the shelves behind its texts.
use Rattle.std.proofs.Common.{◌≡◌, ℕ, zero, suc, ◌+◌, ◌-◌, ◌<◌, ◌≤◌, Bool, List, [], ◌∷◌, ◌++◌, length, refl, sym, ap, ◌∙◌, arith, map, get_or, Some, subst}
use Rattle.std.specs.Prelude.{slice_get, unwrap_or, Option}
use Rattle.std.proofs.lemmas.List.{map_push, length-map}
use Rattle.std.proofs.lemmas.Option.{slice_get_within, slice_get-map, slice_get-get_or}
use Rattle.std.specs.Option.{option_map}
use Rattle.pipe_types.specs.declared.numbers.MsgNo.{MsgNo}
use Rattle.pipe_types.specs.declared.numbers.StageNo.{StageNo}
use Rattle.pipe_types.specs.declared.message.Reply.{Reply}
use Rattle.pipe_journal.specs.declared.kept.KeptReply.{KeptReply}
use Rattle.pipe_journal.specs.Grown.{Extends, IsAdded}
use Rattle.pipe_journal.specs.Packed.{IsRecord, IsKept, text_at, reply_of, IsFound, AreFound}
use Rattle.pipe_journal.proofs.Extending.{as_long, same_item, get_pushed}

-- a passed message by its texts
pub passed : (flush : Bool) (producer : StageNo) (batcher : ℕ) (n : MsgNo) (payload payload' key key' : List ℕ) → payload ≡ payload' → key ≡ key'
    → Reply.Pass (record { payload = payload; key = key; no = n; producer = producer; batcher = batcher; flush = flush })
    ≡ Reply.Pass (record { payload = payload'; key = key'; no = n; producer = producer; batcher = batcher; flush = flush })
passed flush producer batcher n payload payload' key key' same_payload same_key =
    ap (λ (text : List ℕ). Reply.Pass (record { payload = text; key = key; no = n; producer = producer; batcher = batcher; flush = flush })) same_payload
    ∙ ap (λ (text : List ℕ). Reply.Pass (record { payload = payload'; key = text; no = n; producer = producer; batcher = batcher; flush = flush })) same_key

-- the text at a place where there is one
pub text_there : (texts : List (List ℕ)) (at : ℕ) (text : List ℕ) → slice_get texts at ≡ Some text → text_at texts at ≡ text
text_there texts at text is = ap (λ (found : Option (List ℕ)). unwrap_or found []) is

pub same_text : (old new : List (List ℕ)) (at : ℕ) → Extends old new → at < length old → text_at new at ≡ text_at old at
same_text old new at extends inside = ap (λ (found : Option (List ℕ)). unwrap_or found []) (same_item at old new extends inside)

module _ (records records' words words' reasons reasons' : List (List ℕ)) (more_records : Extends records records') (more_words : Extends words words')
    (more_reasons : Extends reasons reasons') where
  same_reply : (kept : KeptReply) → IsFound records words reasons kept → reply_of records' words' reasons' kept ≡ reply_of records words reasons kept
  same_reply (KeptReply.Same flush producer batcher n key) is =
      passed flush producer batcher n _ _ _ _ (same_text records records' (n.0 - 1) more_records is.1) (same_text words words' key more_words is.2)
  same_reply (KeptReply.Changed flush producer batcher n key) is =
      passed flush producer batcher n _ _ _ _ (same_text words words' (key + 1) more_words is) (same_text words words' key more_words (omega arith))
  same_reply (KeptReply.Failed why) is = ap Reply.Failed (same_text reasons reasons' why more_reasons is)
  same_reply (KeptReply.Raised why) is = ap Reply.Raised (same_text reasons reasons' why more_reasons is)
  same_reply KeptReply.Crashed is = refl

  still_found : (kept : KeptReply) → IsFound records words reasons kept → IsFound records' words' reasons' kept
  still_found (KeptReply.Same flush producer batcher n key) is =
      let r = as_long records records' more_records in
      let w = as_long words words' more_words in
      let least : 1 ≤ n.0 = is.0 in
      let in_records : n.0 - 1 < length records = is.1 in
      let in_words : key < length words = is.2 in
      (least, omega arith, omega arith)
  still_found (KeptReply.Changed flush producer batcher n key) is = let w = as_long words words' more_words in omega arith
  still_found (KeptReply.Failed why) is = let w = as_long reasons reasons' more_reasons in omega arith
  still_found (KeptReply.Raised why) is = let w = as_long reasons reasons' more_reasons in omega arith
  still_found KeptReply.Crashed is = tt

  pub same_replies : (replies : List KeptReply) → AreFound records words reasons replies → map (reply_of records' words' reasons') replies ≡ map (reply_of records words reasons) replies
  same_replies [] are = refl
  same_replies (kept ∷ others) are =
      ap (λ (reply : Reply). reply ∷ map (reply_of records' words' reasons') others) (same_reply kept are.0)
      ∙ ap (λ (replies : List Reply). reply_of records words reasons kept ∷ replies) (same_replies others are.1)

  pub all_found : (replies : List KeptReply) → AreFound records words reasons replies → AreFound records' words' reasons' replies
  all_found [] are = tt
  all_found (kept ∷ others) are = (still_found kept are.0, all_found others are.1)

  pub found_more : (replies : List KeptReply) (kept : KeptReply) → AreFound records words reasons replies → IsFound records' words' reasons' kept
      → AreFound records' words' reasons' (replies ++ kept ∷ [])
  found_more [] kept are is = (is, tt)
  found_more (first ∷ others) kept are is = (still_found first are.0, found_more others kept are.1 is)

  -- one kept reply more is one reply more
  pub replies_more : (replies : List KeptReply) (kept : KeptReply) (reply : Reply) → AreFound records words reasons replies
      → reply_of records' words' reasons' kept ≡ reply
      → map (reply_of records' words' reasons') (replies ++ kept ∷ []) ≡ map (reply_of records words reasons) replies ++ reply ∷ []
  replies_more replies kept reply are is =
      map_push (reply_of records' words' reasons') replies kept
      ∙ ap (λ (xs : List Reply). xs ++ reply_of records' words' reasons' kept ∷ []) (same_replies replies are)
      ∙ ap (λ (x : Reply). map (reply_of records words reasons) replies ++ x ∷ []) is

-- the reply at a place
pub reply_there : (records words reasons : List (List ℕ)) (replies : List KeptReply) (at : ℕ) (kept : KeptReply) → AreFound records words reasons replies
    → slice_get replies at ≡ Some kept → IsFound records words reasons kept
reply_there records words reasons [] at kept are is = let none : ⊥ = cc in absurd none
reply_there records words reasons (first ∷ others) zero kept are is =
    let same : first ≡ kept = cc in subst (λ (k : KeptReply). IsFound records words reasons k) same are.0
reply_there records words reasons (first ∷ others) (suc at) kept are is = reply_there records words reasons others at kept are.1 is

-- the reply at a place by what is kept there
pub reply_is : (records words reasons : List (List ℕ)) (replies : List KeptReply) (at : ℕ) (kept : KeptReply) → slice_get replies at ≡ Some kept
    → slice_get (map (reply_of records words reasons) replies) at ≡ Some (reply_of records words reasons kept)
reply_is records words reasons replies at kept is =
    slice_get-map (reply_of records words reasons) replies at ∙ ap (option_map (reply_of records words reasons)) is

-- a message whose payload is its record's
pub kept_same : (records words reasons : List (List ℕ)) (flush : Bool) (producer : StageNo) (batcher : ℕ) (n : MsgNo) (key : ℕ) (payload text payload' text' : List ℕ)
    → IsRecord records n.0 payload → slice_get words key ≡ Some text
    → payload ≡ payload' → text ≡ text'
    → IsKept records words reasons (KeptReply.Same flush producer batcher n key)
    (Reply.Pass (record { payload = payload'; key = text'; no = n; producer = producer; batcher = batcher; flush = flush }))
kept_same records words reasons flush producer batcher n key payload text payload' text' same is payload_is text_is = record {
  is = passed flush producer batcher n _ _ _ _ (text_there records (n.0 - 1) payload same.is ∙ payload_is) (text_there words key text is ∙ text_is);
  found = (same.least, slice_get_within records (n.0 - 1) payload same.is, slice_get_within words key text is);
}

-- a message with its own payload
pub kept_changed : (records words reasons : List (List ℕ)) (flush : Bool) (producer : StageNo) (batcher : ℕ) (n : MsgNo) (key : ℕ) (payload text payload' text' : List ℕ)
    → slice_get words key ≡ Some text → slice_get words (key + 1) ≡ Some payload
    → payload ≡ payload' → text ≡ text'
    → IsKept records words reasons (KeptReply.Changed flush producer batcher n key)
    (Reply.Pass (record { payload = payload'; key = text'; no = n; producer = producer; batcher = batcher; flush = flush }))
kept_changed records words reasons flush producer batcher n key payload text payload' text' key_there payload_there payload_is text_is = record {
  is = passed flush producer batcher n _ _ _ _ (text_there words (key + 1) payload payload_there ∙ payload_is) (text_there words key text key_there ∙ text_is);
  found = slice_get_within words (key + 1) payload payload_there;
}

pub kept_failed : (records words reasons : List (List ℕ)) (why : ℕ) (text : List ℕ) → slice_get reasons why ≡ Some text
    → IsKept records words reasons (KeptReply.Failed why) (Reply.Failed text)
kept_failed records words reasons why text is = record { is = ap Reply.Failed (text_there reasons why text is); found = slice_get_within reasons why text is }

pub kept_raised : (records words reasons : List (List ℕ)) (why : ℕ) (text : List ℕ) → slice_get reasons why ≡ Some text
    → IsKept records words reasons (KeptReply.Raised why) (Reply.Raised text)
kept_raised records words reasons why text is = record { is = ap Reply.Raised (text_there reasons why text is); found = slice_get_within reasons why text is }

-- a place of the replies is one of what is kept of them
pub reply_within : (records words reasons : List (List ℕ)) (replies : List KeptReply) (seen : List Reply) (at : ℕ) → map (reply_of records words reasons) replies ≡ seen
    → at < length seen → at < length replies
reply_within records words reasons replies seen at is inside =
    let long : length (map (reply_of records words reasons) replies) ≡ length replies = length-map replies (reply_of records words reasons) in
    let same : length (map (reply_of records words reasons) replies) ≡ length seen = ap length is in
    omega arith

pub there_text : (texts : List (List ℕ)) (at : ℕ) (text : List ℕ) → at < length texts → text_at texts at ≡ text → slice_get texts at ≡ Some text
there_text texts at text within is =
    let there : slice_get texts at ≡ Some (get_or texts at []) = slice_get-get_or texts at [] within in
    there ∙ ap Some (sym (ap (λ (found : Option (List ℕ)). unwrap_or found []) there) ∙ is)
