-- What is answered to a request that is refused whatever its form.
use Rattle.std.specs.Prelude.{ℕ, ◌+◌, ◌-◌, ◌^◌, min, List, codes}
use Rattle.rld_ask.specs.declared.refusal.Refusal.{Refusal}
use Rattle.rld_ask.specs.declared.refusal.Refusal.TheVariants.{Token, Path, Method}
use Rattle.rld_ask.specs.declared.refused.Refused.{Refused}

abbrev pub status_of : Refusal → ℕ
status_of Token = 401
status_of Path = 400
status_of Method = 405

abbrev pub text_of : Refusal → List ℕ
text_of Token = codes "wrong token\n"
text_of Path = codes "ask at /ask\n"
text_of Method = codes "only POST is answered\n"

-- ---- how many were refused

abbrev pub no_refused : Refused
no_refused = record { token = 0; other = 0 }

abbrev pub with_refused : Refused → Refused → Refused
with_refused counted more = record {
  token = min (counted.token + more.token) (2 ^ 64 - 1);
  other = min (counted.other + more.other) (2 ^ 64 - 1);
}
