use Rattle.rsl_shard.specs.Restep.{new_books}
use Rattle.rsl_shard.specs.Setup.{setup_of}
use Rattle.rsl_serve.proofs.server.run_server.Given as goal

-- each ledger is that of its shard
abbrev pub ghosts-run-L0-Ledger : goal.ghosts-run-L0-Ledger
ghosts-run-L0-Ledger g a = record { name = a.blanks.blank0.name; parts = 1025 }

abbrev pub ghosts-run-L1-Ledger : goal.ghosts-run-L1-Ledger
ghosts-run-L1-Ledger g a = record { name = a.blanks.blank1.name; parts = 1025 }

abbrev pub ghosts-run-L2-Ledger : goal.ghosts-run-L2-Ledger
ghosts-run-L2-Ledger g a = record { name = a.blanks.blank2.name; parts = 1025 }

abbrev pub ghosts-run-L3-Ledger : goal.ghosts-run-L3-Ledger
ghosts-run-L3-Ledger g a = record { name = a.blanks.blank3.name; parts = 1025 }

abbrev pub ghosts-run-L0-Tally : goal.ghosts-run-L0-Tally
ghosts-run-L0-Tally g a = record { setup = setup_of a.config 0; books = new_books a.config 0 }

abbrev pub ghosts-run-L1-Tally : goal.ghosts-run-L1-Tally
ghosts-run-L1-Tally g a = record { setup = setup_of a.config 1; books = new_books a.config 1 }

abbrev pub ghosts-run-L2-Tally : goal.ghosts-run-L2-Tally
ghosts-run-L2-Tally g a = record { setup = setup_of a.config 2; books = new_books a.config 2 }

abbrev pub ghosts-run-L3-Tally : goal.ghosts-run-L3-Tally
ghosts-run-L3-Tally g a = record { setup = setup_of a.config 3; books = new_books a.config 3 }
