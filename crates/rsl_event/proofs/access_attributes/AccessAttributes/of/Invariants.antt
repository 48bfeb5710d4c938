use Rattle.rsl_event.specs.declared.codes.TheConstants.{USER_NAME, USER_PASSWORD, CHAP_PASSWORD, CHAP_CHALLENGE, NAS_IDENTIFIER, NAS_IP_ADDRESS, PROXY_STATE, MESSAGE_AUTHENTICATOR}
use Rattle.rsl_event.proofs.OccurrenceLaws.{AreSoFar}
use Rattle.rsl_event.proofs.access_attributes.AccessAttributes.of.Given as goal

-- those noted, and those among what is left
abbrev pub invariant-loop-kind : goal.invariant-loop-kind
invariant-loop-kind l = record {
  names : AreSoFar USER_NAME l.all l.kind-iterator l.names;
  user_passwords : AreSoFar USER_PASSWORD l.all l.kind-iterator l.user_passwords;
  chap_passwords : AreSoFar CHAP_PASSWORD l.all l.kind-iterator l.chap_passwords;
  challenges : AreSoFar CHAP_CHALLENGE l.all l.kind-iterator l.challenges;
  identifiers : AreSoFar NAS_IDENTIFIER l.all l.kind-iterator l.identifiers;
  addresses : AreSoFar NAS_IP_ADDRESS l.all l.kind-iterator l.addresses;
  proxy_states : AreSoFar PROXY_STATE l.all l.kind-iterator l.proxy_states;
  signatures : AreSoFar MESSAGE_AUTHENTICATOR l.all l.kind-iterator l.signatures;
}
