-- A request without attributes: it is read, and any account's accept answers it.
use Rattle.std.proofs.Common.{◌≡◌, ℕ, ◌<◌, ◌≤◌, List, [], length, Result, Ok, Err, refl, arith}
use Rattle.rsl_accounts.specs.Configuration.{Configuration}
use Rattle.rsl_event.specs.Prepared.{CanReply}
use Rattle.rsl_event.specs.declared.meaning_kind.MeaningKind.TheVariants.{Ask}
use Rattle.rsl_wire.specs.Attributes.{list_from}
use Rattle.rsl_wire.specs.Packet.{Fields, packet_of}
use Rattle.rsl_wire.specs.declared.packet.WireFault.{WireFault}
use Rattle.rld_attributes.specs.Accept.{bare_request}
use Rattle.rld_attributes.specs.declared.accept.TheConstants.{BARE_REQUEST}

pub bare_is_read : packet_of BARE_REQUEST ≡ Ok bare_request
unfolding packet_of
bare_is_read = refl

pub ok_is : (read : Result Fields WireFault) (one other : Fields) → read ≡ Ok one → read ≡ Ok other → one ≡ other
ok_is read one other first second = cc

pub ok_is_no_err : (read : Result Fields WireFault) (one : Fields) (fault : WireFault) → read ≡ Ok one → read ≡ Err fault → ⊥
ok_is_no_err read one fault first second = cc

pub can_reply_bare : (config : Configuration) (account : ℕ) → account < length config.accounts → 1 ≤ length config.clients
    → CanReply config 0 [] (Ask account)
unfolding list_from
can_reply_bare config account within clients = record {
  known = omega (arith, clients);
  asker = within;
  room = record { formed = refl; short = omega arith };
}
