use Rattle.std.proofs.Common.{◌≡◌, ◌∙◌, ◌∷◌, [], ◌++◌, ap, sym, refl, map, length, List, ℕ, arith}
use Rattle.std.proofs.lemmas.List.{length-map}
use Rattle.pipe_types.specs.declared.message.Reply.{Reply}
use Rattle.pipe_journal.specs.Seen.{KeptSeen}
use Rattle.pipe_journal.specs.Packed.{reply_of}
use Rattle.pipe_journal.proofs.Extending.{same, by_one}
use Rattle.pipe_journal.proofs.Keeping.{all_found, found_more, same_replies, replies_more}
use Rattle.pipe_journal.proofs.kept.Kept.add_reply.Goals as goal

pub invariant_of-self-in_err-kept : goal.invariant_of-self-in_err-kept
invariant_of-self-in_err-kept c =
    let k = c.self.inside in
    rw c.in_ok-reserve.ensures.items
    (all_found k.records k.records k.words c.keep_reply.new.words k.reasons.items c.keep_reply.new.reasons.items (same _ _ refl) c.keep_reply.ensures.words
    c.keep_reply.ensures.reasons k.replies.items c.self.invariant)

pub invariant_of-self-2 : goal.invariant_of-self-2
invariant_of-self-2 c =
    let k = c.self.inside in
    rw (c.push_reserved.ensures.items, c.in_ok-reserve.ensures.items)
    (found_more k.records k.records k.words c.keep_reply.new.words k.reasons.items c.keep_reply.new.reasons.items (same _ _ refl) c.keep_reply.ensures.words
    c.keep_reply.ensures.reasons k.replies.items c.in_ok-kept.kept c.self.invariant c.in_ok-kept.ensures.kept.found)

pub returns-in_err-reserve-clause-extends : goal.returns-in_err-reserve-clause-extends
returns-in_err-reserve-clause-extends c =
    let k = c.self.inside in
    same _ _ (ap (map (reply_of k.records k.words k.reasons.items)) c.reserve.ensures.items ∙ ap (λ (seen : KeptSeen). seen.replies) c.self.view_is)

pub returns-in_err-kept-clause-extends : goal.returns-in_err-kept-clause-extends
returns-in_err-kept-clause-extends c =
    let k = c.self.inside in
    same _ _
    (ap (map (reply_of k.records c.keep_reply.new.words c.keep_reply.new.reasons.items)) c.in_ok-reserve.ensures.items
    ∙ same_replies k.records k.records k.words c.keep_reply.new.words k.reasons.items c.keep_reply.new.reasons.items (same _ _ refl) c.keep_reply.ensures.words
    c.keep_reply.ensures.reasons k.replies.items c.self.invariant
    ∙ ap (λ (seen : KeptSeen). seen.replies) c.self.view_is)

pub returns-clause-added : goal.returns-clause-added
returns-clause-added c =
    let k = c.self.inside in
    let long : length (map (reply_of k.records k.words k.reasons.items) k.replies.items) ≡ length k.replies.items = length-map k.replies.items (reply_of k.records k.words k.reasons.items) in
    let seen_long = ap (λ (seen : KeptSeen). length seen.replies) c.self.view_is in
    record {
      at_is = omega (arith, long, seen_long, k.replies.ok.0, c.in_ok-at.ensures, c.len.ensures);
      is = ap (map (reply_of k.records c.keep_reply.new.words c.keep_reply.new.reasons.items)) (c.push_reserved.ensures.items ∙ ap (λ kepts. kepts ++ c.in_ok-kept.kept ∷ []) c.in_ok-reserve.ensures.items)
          ∙ replies_more k.records k.records k.words c.keep_reply.new.words k.reasons.items c.keep_reply.new.reasons.items (same _ _ refl) c.keep_reply.ensures.words
          c.keep_reply.ensures.reasons k.replies.items c.in_ok-kept.kept c.args.reply.now c.self.invariant c.in_ok-kept.ensures.kept.is
          ∙ ap (λ (seen : KeptSeen). seen.replies ++ c.args.reply.now ∷ []) c.self.view_is;
    }

pub returns-clause-extends : goal.returns-clause-extends
returns-clause-extends c = by_one _ _ _ _ (returns-clause-added c)
