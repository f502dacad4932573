-- The names that proofs of this crate use most, passed on from one place.
pub use Rattle.std.specs.{Prelude.{◌&&◌, ◌||◌, Bool, is_some, nat_lt, option_to_list, if◌then◌else◌}, List.list_any, Option.is_none}
pub use Rattle.std.proofs.lemmas.Bool.Decides.{nat_tests}
pub use Rattle.csv.specs.{Reading.{default_config, strip_bom}, declared.parser.State.State}
pub use Rattle.snoop_trace.specs.{Extent.Extent, Text.records_of, declared.{fault.TextFault.TextFault, protocol.Protocol.Protocol}}
pub use Rattle.snoop_lint.specs.{declared.{form.Form.{Form, TheVariants.{Steps, Rows}}, tally.Tally.Tally}, Tallies.{has_heading, is_limit, is_other}}
pub use Rattle.snoop_lint.specs.Findings.{Finding, fault_at, finding, findings, first_fault, heads, refusal}
unfoldable pub use Rattle.snoop_lint.specs.{Findings.findings_from, Tallies.tally_of}
