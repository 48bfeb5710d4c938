-- What a running server has made of a command, by its answer.
use Rattle.std.specs.Prelude.{ℕ, Bool, false, if◌then◌else◌, codes, bytes_eq}
use Rattle.rld_control.specs.Disconnecting.{is_unanswered}
use Rattle.rld_control.specs.declared.reply.Reply.{Reply}
use Rattle.rld_control.specs.declared.reply.Reply.TheVariants as replies
use Rattle.rld_commands.specs.declared.outcome.Outcome.{Outcome}
use Rattle.rld_commands.specs.declared.outcome.Outcome.TheVariants.{Done, NotHeld, Unanswered, Refused, Broken}
use Rattle.rld_words.specs.declared.topic.Topic.{Topic}
use Rattle.rld_words.specs.declared.topic.Topic.TheVariants as topics

-- nothing is held that could be freed, or disconnected
abbrev pub is_not_held : Topic → Reply → Bool
is_not_held topics.Free (replies.Done lines) = bytes_eq lines.now (codes "no such session\n")
is_not_held topics.Disconnect (replies.Refused text) = bytes_eq text.now (codes "no such session")
is_not_held topic reply = false

abbrev pub answered_as : Reply → Outcome
answered_as (replies.Done lines) = Done lines
answered_as (replies.Refused text) = if is_unanswered text.now then Unanswered else Refused text
answered_as replies.Broken = Broken

abbrev pub outcome_of : Topic → Reply → Outcome
outcome_of topic reply = if is_not_held topic reply then NotHeld else answered_as reply
