-- The end of an answer.
use Rattle.std.specs.Prelude.{◌≡◌, ◌≢◌, ℕ, List, [], ◌++◌, codes}
use Rattle.rld_control.specs.declared.reply.Reply.{Reply}
use Rattle.rld_control.specs.declared.reply.Reply.TheVariants.{Done, Refused, Broken}

-- lines and `ok`; or `error` and the reason; a broken answer has no octets of its own
abbrev pub reply_octets : Reply → List ℕ
reply_octets (Done lines) = lines.now ++ codes "ok\n"
reply_octets (Refused text) = codes "error " ++ (text.now ++ codes "\n")
reply_octets Broken = []

-- the answer in some octets: the one with these octets, or a broken one
abbrev pub IsReply : (octets : List ℕ) → Reply → Type 0
IsReply octets (Done lines) = octets ≡ reply_octets (Done lines)
IsReply octets (Refused text) = octets ≡ reply_octets (Refused text)
IsReply octets Broken =
    (text : List ℕ) → (octets ≢ text ++ codes "ok\n") × (octets ≢ codes "error " ++ (text ++ codes "\n"))
