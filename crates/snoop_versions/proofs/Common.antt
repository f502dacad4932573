-- The names that the proofs of this crate use most, passed on from one place.
pub use Rattle.std.{proofs.Common.{ap, drop, sym, true, ◌∙◌, ◌≡◌}, specs.Prelude.{All, Err, IsOk, MatchResult, Ok, Result}}
pub use Rattle.snoop_history.{specs.declared.items.Item.Item, proofs.Boards.{absorbed_board, inside_all, same_shape}}
pub use Rattle.snoop_versions.specs.{Knows.knows, Readings.{Enters, IsHistory, Publishing}, declared.{rule.View.View, version.Version.Version}}
pub use Rattle.snoop_versions.specs.Rule.{Adds, Fits, grown, IsPublishing, IsWriting, Kept, newcomer, newest_of, Sees, version_of, viewing}
