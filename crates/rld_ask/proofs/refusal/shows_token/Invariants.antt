use Rattle.std.proofs.Common.{◌≡◌, drop, map}
use Rattle.httparse.specs.Spans.{header_bytes}
use Rattle.rld_ask.specs.Heads.{shows_token}
use Rattle.rld_ask.proofs.Shown.{shown_with}
use Rattle.rld_ask.proofs.refusal.shows_token.Given as goal

-- the fields that are left decide as all do
abbrev pub invariant-loop-field : goal.invariant-loop-field
invariant-loop-field l =
    shown_with l.token.credentials.items l.shown (map (header_bytes l.input) (drop l.field-index l.fields))
    ≡ shows_token l.token.credentials.items (map (header_bytes l.input) l.fields)
