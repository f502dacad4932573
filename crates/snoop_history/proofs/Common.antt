-- The names that proofs of this crate use most, passed on from one place.
pub use Rattle.indexmap.specs.IndexSet.{insert_key, spare}
pub use Rattle.snoop_history.specs.{History.{IsNext, IsNumbered, Legal, answers_of, flat, is_store_to, last_of, last_or, next_number}, Mentions.Mentions}
pub use Rattle.snoop_history.specs.{History.{operation_of, operations, stores}, Journal.{Journal, counted, tallied}, Packed.unpacked}
pub use Rattle.snoop_history.specs.{Report.{block_text, blocks_text, report_of, totals_text, values_text}, declared.items.{Did.Did, Item.Item, Totals.Totals}}
pub use Rattle.std.proofs.lemmas.Bool.{and_from, and_parts, eq-eqb, eqb-true, false_from_ne_true, lt-ltb}
pub use Rattle.std.proofs.lemmas.{Bool.{ne_eqb, Decides.nat_tests}, Grind.{common_steps, flat_map-append}, List.{map-append, same_lists}}
pub use Rattle.std.proofs.lemmas.{Iterator.{YieldsList-from_slice, items_from_collect}, List.{append-nil, get_or-replicate}, Result.IfOk-at_ok}
pub use Rattle.std.proofs.lemmas.List.{get_or-set_other, get_or-set_same, get_or_read, length-append, length-map, length-replicate, length-set}
pub use Rattle.std.proofs.lemmas.Option.{slice_get-get_or, slice_get-map, slice_get_past, slice_get_read, unwrap_or-slice_get}
pub use Rattle.std.specs.{List.{each_same, filter_map, flat_map, list_any, range_with_len}, Option.{ForSome, option_map, option_map_or}}
