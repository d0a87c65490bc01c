-- What creation is given, and its checks.
use Rattle.std.specs.Prelude.{◌&&◌, cond, List, ℕ, length}
use Rattle.names.specs.Directory.{directory_check, max_names, max_name_length}
use Rattle.heads.specs.Options.{options_check}
use Rattle.heads.specs.declared.options.Options.{Options}
use Rattle.settings.specs.Settings.{settings_ok}
use Rattle.settings.specs.Configured.{configured_ok}
use Rattle.checks.specs.Calls.{first}

-- the names with their end places, the options, the settings and the configured groups.
pub record Setup : Type 0 where
  pub names : List ℕ
  pub ends : List ℕ
  pub options : Options
  pub settings : List ℕ
  pub groups : List ℕ

-- Creation goes down the table: the directory (1 to 4), the options (11 to 13), then 14
unfoldable pub creation_check : Setup → ℕ
creation_check s =
    first (directory_check max_names max_name_length s.names s.ends)
    (first (options_check s.options)
    (cond (settings_ok (length s.ends) s.settings && configured_ok s.groups) 0 14))
