use Rattle.std.proofs.Common.{◌∙◌, ap, sym, length}
use Rattle.std.proofs.lemmas.List.{length-map}
use Rattle.pipe_journal.specs.Seen.{KeptSeen}
use Rattle.pipe_journal.specs.Packed.{reply_of}
use Rattle.pipe_journal.proofs.kept.Kept.reply_count.Goals as goal

pub returns : goal.returns
returns c =
    let k = c.self.inside in
    c.len.ensures ∙ k.replies.ok.0 ∙ sym (length-map k.replies.items (reply_of k.records k.words k.reasons.items))
    ∙ ap (λ (seen : KeptSeen). length seen.replies) c.self.view_is
