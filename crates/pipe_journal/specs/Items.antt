-- The records, messages and replies that views show.
use Rattle.std.specs.Prelude.{ℕ, List, [], ◌∷◌, take, drop}
use Rattle.pipe_types.specs.declared.message.Message.{Message}
use Rattle.pipe_types.specs.declared.message.Reply.{Reply}
use Rattle.pipe_journal.specs.declared.items.MessageView.{MessageView}
use Rattle.pipe_journal.specs.declared.items.ReplyView.{ReplyView}
use Rattle.pipe_journal.specs.declared.items.Records.{Records}
use Rattle.pipe_journal.specs.declared.items.Replies.{Replies}

abbrev pub message_seen : MessageView → Message
message_seen m = record { payload = m.payload.now; key = m.key.now; no = m.no; producer = m.producer; batcher = m.batcher; flush = m.flush }

abbrev pub reply_seen : ReplyView → Reply
reply_seen (ReplyView.Pass message) = Reply.Pass (message_seen message)
reply_seen (ReplyView.Failed why) = Reply.Failed why.now
reply_seen (ReplyView.Raised why) = Reply.Raised why.now
reply_seen ReplyView.Crashed = Reply.Crashed

abbrev pub records_seen : Records → List (List ℕ)
records_seen (Records.Listed records) = records.now
records_seen (Records.Packed kept first count) = take count (drop first kept.now.records)

abbrev pub replies_seen : Replies → List Reply
replies_seen (Replies.Listed replies) = replies.now
replies_seen (Replies.Packed kept first count) = take count (drop first kept.now.replies)
replies_seen (Replies.One reply) = reply_seen reply ∷ []
