-- What an operator is told of a request that is not done.
use Rattle.std.specs.Prelude.{ℕ, List, codes}
use Rattle.rld_ask.specs.declared.outcome.Outcome.TheVariants as outcomes
use Rattle.rld_control.specs.Disconnecting.{fault_octets}
use Rattle.rld_control.specs.declared.fault.FreeFault.TheVariants as causes
use Rattle.rld_serve.specs.declared.ask_fault.AskFault.{AskFault}
use Rattle.rld_serve.specs.declared.ask_fault.AskFault.TheVariants as faults

abbrev pub octets_of_fault : AskFault → List ℕ
octets_of_fault faults.UnknownCommand = codes "error unknown command\n"
octets_of_fault faults.UnknownAccount = codes "error unknown account\n"
octets_of_fault faults.Changed = codes "error the accounts have changed: ask again\n"
octets_of_fault (faults.Free causes.UnknownAccount) = codes "error unknown account\n"
octets_of_fault (faults.Free causes.UnknownClient) = codes "error unknown client\n"
octets_of_fault (faults.Free causes.NoSession) = codes "error no session can be named so\n"
octets_of_fault (faults.Free causes.NoMemory) = codes "error no memory\n"
octets_of_fault faults.Unrecorded = codes "error not recorded, and so not freed\n"
octets_of_fault (faults.Disconnect fault) = fault_octets fault
octets_of_fault faults.NoAsks = codes "error no [ask] in the server's file\n"
octets_of_fault (faults.NotAccepted outcomes.LimitReached) = codes "error session limit reached\n"
octets_of_fault (faults.NotAccepted outcomes.UnknownAccount) = codes "error unknown account\n"
octets_of_fault (faults.NotAccepted outcomes.Disabled) = codes "error account disabled\n"
octets_of_fault (faults.NotAccepted outcomes.Accepted) = codes "error not recorded\n"
octets_of_fault (faults.NotAccepted outcomes.Unanswered) = codes "error not recorded\n"
octets_of_fault faults.NoMemory = codes "error no memory\n"
