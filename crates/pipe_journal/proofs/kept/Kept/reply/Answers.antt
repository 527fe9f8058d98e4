use Rattle.std.proofs.Common.{◌≡◌, ◌∙◌, ap, sym, refl, subst, length, List, ℕ, Some, arith}
use Rattle.std.specs.Prelude.{slice_get}
use Rattle.std.proofs.lemmas.List.{length-map}
use Rattle.std.proofs.lemmas.Option.{slice_get_read}
use Rattle.pipe_journal.specs.Seen.{KeptSeen}
use Rattle.pipe_journal.specs.Packed.{reply_of, IsFound}
use Rattle.pipe_journal.proofs.Keeping.{reply_there, reply_is, reply_within}
use Rattle.pipe_journal.proofs.kept.Kept.reply.Goals as goal

pub index-kept-requires : goal.index-kept-requires
index-kept-requires c =
    let k = c.self.inside in
    let within = reply_within k.records k.words k.reasons.items k.replies.items _ c.args.at (ap (λ (seen : KeptSeen). seen.replies) c.self.view_is) c.requires in
    omega (arith, within, k.replies.ok.0)

pub view_kept-requires : goal.view_kept-requires
view_kept-requires c =
    let k = c.self.inside in
    let within = reply_within k.records k.words k.reasons.items k.replies.items _ c.args.at (ap (λ (seen : KeptSeen). seen.replies) c.self.view_is) c.requires in
    subst (λ (reasons : List (List ℕ)). IsFound k.records k.words reasons c.index-kept.result.now) (sym c.deref.ensures.value)
    (reply_there k.records k.words k.reasons.items k.replies.items c.args.at c.index-kept.result.now c.self.invariant
    (slice_get_read k.replies.items _ c.args.at c.index-kept.result.now refl within c.index-kept.ensures))

pub returns : goal.returns
returns c =
    let k = c.self.inside in
    let within = reply_within k.records k.words k.reasons.items k.replies.items _ c.args.at (ap (λ (seen : KeptSeen). seen.replies) c.self.view_is) c.requires in
    ap (λ (seen : KeptSeen). slice_get seen.replies c.args.at) (sym c.self.view_is)
    ∙ reply_is k.records k.words k.reasons.items k.replies.items c.args.at c.index-kept.result.now
    (slice_get_read k.replies.items _ c.args.at c.index-kept.result.now refl within c.index-kept.ensures)
    ∙ ap Some (sym (c.view_kept.ensures ∙ ap (λ (reasons : List (List ℕ)). reply_of k.records k.words reasons c.index-kept.result.now) c.deref.ensures.value))
