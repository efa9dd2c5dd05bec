-- The configuration of the generator breaks no rule, and has the listener of its events: the text is read.
use Rattle.std.proofs.Common.{◌≡◌, Some, None, refl}
use Rattle.std.specs.Prelude.{codes}
use Rattle.std.specs.Str.{is_utf8, chars}
use Rattle.toml.proofs.OnLiterals.{toml_on_literals}
use Rattle.ucd_table.specs.Rows.{value_in}
use Rattle.ucd_case.specs.SimpleFoldingRows.{simple_folding_rows}
use Rattle.ucd_case.specs.CaseFolding.{simple_folding}
use Rattle.acct_base.specs.Words.{decimal_of}
use Rattle.dtyp_sid.specs.Reading.{stage_after, finished, sid_of_text}
use Rattle.acct_calls.specs.Names.{code_points, units_of, folded_point, folded_points, is_same, is_valid_name}
use Rattle.acct_calls.specs.Names.{is_domain_name, is_domain_sid}
use Rattle.acct_config.specs.Document.{is_domain, is_listener, is_document}
use Rattle.acct_config.specs.Rules.{owner_is_sid, aces_are_entries, hook_is_right, kept, first_broken}
use Rattle.acct_config.specs.Values.{is_listener_name, is_port, is_host_port, is_address}
use Rattle.acct_server.specs.Leaves.{spelled}
use Rattle.acct_server.specs.Replayed.{listener_from}
use Rattle.acct_commands.specs.Generating.{configuration, ConfigurationIsTaken}

breaks-no-rule : first_broken configuration ≡ None
unfolding is_utf8 chars toml_on_literals value_in simple_folding_rows simple_folding decimal_of stage_after finished sid_of_text code_points units_of folded_point folded_points is_same is_valid_name is_domain_name is_domain_sid is_domain is_listener is_document owner_is_sid aces_are_entries hook_is_right kept is_listener_name is_port is_host_port is_address configuration
breaks-no-rule = refl

has-listener : listener_from 0 (codes "a") (spelled configuration).listeners ≡ Some 0
unfolding is_utf8 chars toml_on_literals configuration
has-listener = refl

pub configuration-is-taken : ConfigurationIsTaken
configuration-is-taken = record { kept_all = breaks-no-rule; listener = has-listener }
