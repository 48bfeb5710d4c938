-- The paths of a server, for a process that was given the name of its file.
use Rattle.std.specs.Prelude.{ℕ, List, codes, Option, None, Some, option_map}
use Rattle.std.specs.Path.{path_join, path_with_file_name, path_buf_bytes}
use Rattle.rld_config.specs.declared.ask.AskSettings.{AskSettings}
use Rattle.rld_config.specs.declared.paths.Paths.{Paths}
use Rattle.rld_config.specs.declared.server.ServerFile.{ServerFile}

-- the paths as lists of octets
pub record PathsSeen : Type 0 where
  pub accounts : List ℕ
  pub state : List ℕ
  pub control : List ℕ
  pub token : Option (List ℕ)

abbrev pub paths_in : Paths → PathsSeen
paths_in paths = record {
  accounts = path_buf_bytes paths.accounts;
  state = path_buf_bytes paths.state;
  control = path_buf_bytes paths.control;
  token = option_map path_buf_bytes paths.token;
}

-- a path of the file, resolved: from the folder of the file, unless it begins at the root
abbrev pub beside : (file path : List ℕ) → List ℕ
beside file path = path_with_file_name file path

-- the socket is `control` in the state folder unless the file says otherwise
abbrev pub control_path : (file state : List ℕ) → Option (List ℕ) → List ℕ
control_path file state None = path_join (beside file state) (codes "control")
control_path file state (Some path) = beside file path

abbrev pub token_path : (file : List ℕ) → Option AskSettings → Option (List ℕ)
token_path file None = None
token_path file (Some ask) = Some (beside file ask.token_file)

abbrev pub paths_of : (file : List ℕ) → ServerFile → PathsSeen
paths_of file server = record {
  accounts = beside file server.accounts;
  state = beside file server.state;
  control = control_path file server.state server.control.path;
  token = token_path file server.ask;
}
