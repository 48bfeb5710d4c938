-- The build of a running server.
use Rattle.std.specs.Prelude.{ℕ, List, ◌++◌, codes}
use Rattle.rld_look.specs.declared.build.Build.{Build}
use Rattle.rld_look.specs.declared.build.Proof.{Proof}
use Rattle.rld_look.specs.declared.build.Proof.TheVariants.{Commit, Uncommitted, Unproved}
use Rattle.rld_values.specs.Values.{hex}

-- the proof for people
abbrev pub proof_text : Proof → List ℕ
proof_text (Commit name) = codes "proved at " ++ hex name
proof_text Uncommitted = codes "proved, from sources that are in no commit"
proof_text Unproved = codes "not proved"

-- the proof for scripts: the name of the commit, or another word
abbrev pub proof_word : Proof → List ℕ
proof_word (Commit name) = hex name
proof_word Uncommitted = codes "uncommitted"
proof_word Unproved = codes "no"

abbrev pub build_line : Build → List ℕ
build_line build = codes "radlimitd " ++ build.version.now ++ codes ", " ++ proof_text build.proof ++ codes "\n"
