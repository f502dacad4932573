-- The names that the proofs of this crate use most, passed on from one place.
pub use Rattle.std.proofs.Common.{[], ℕ, ◌++◌, ◌+◌, ◌<◌, ◌∙◌, ◌∷◌, ◌≡◌, ◌≤◌, ap, append-nil, append_assoc, arith, Bool, codes, false, flat_map, get_or, inl, inr, length, List, map, Option, refl, rules, Some, sym, take, true}
pub use Rattle.std.{proofs.lemmas.{Bool.both_ways, List.{length_push, map-append}, Result.{IfOk-equal, on_ok_weaker}, Simd.map-map}, specs.List.range_with_len}
pub use Rattle.snoop_trace.specs.{Extent.Extent, declared.protocol.Protocol.Protocol}
pub use Rattle.snoop_model.specs.Pictures.Situation.{Situation}
pub use Rattle.snoop_engine.specs.{Chosen.Chosen, Frames.Frame, Line.line_text}
pub use Rattle.snoop_states.specs.{Cells.cell_text, Columns.{column_name, columns_in, width_of}, Each.AreEach}
pub use Rattle.snoop_states.specs.{Rows.{below, padded_text}, Seen.{AreTables, Grows, IsEmpty, IsTable, pair}, Whole.block_table}
pub use Rattle.snoop_states.specs.declared.column.Column.{Column}
