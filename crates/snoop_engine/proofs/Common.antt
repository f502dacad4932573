-- The names of the crates below, of std and of the contracts that proofs of the engine use most, passed on from one place.
pub use Rattle.std.proofs.Common.{◌≡◌, List, [], ◌∷◌, ◌++◌, refl, ap, ◌∙◌, Result, Ok, Err, ◌≢◌, ℕ, zero, suc, ◌+◌, ◌*◌, ◌<◌, length, sym, arith, ◌^◌, map, OnOk, OnErr, ◌/◌, Bool, true, false, cond, Option, Some, None, ◌==◌, IfNone, IfSome, lt-ltb, subst, ◌≤◌, append-nil, filter, inl, inr, flat_map, length-append, drop, slice_index_or, ◌⊎◌, ◌&&◌, ◌%◌, slice_get, slice_set, if◌then◌else◌, take, Contains, append_assoc, IsErrAnd, get_or, set, replicate, is_some, All, IsOk, count_by, not, ◌||◌, IsSomeAnd, MatchBool, eqb, rules, decimal, codes, ◌-◌, max, vec_capacity}
pub use Rattle.std.proofs.lemmas.{Bool.{cases_eq, cases_lt, eq-eqb, ne_eqb, le-ltb, cases_Bool, Decides.nat_tests}, Grind.common_steps}
pub use Rattle.std.proofs.lemmas.List.{flat_map_more, get_or_default, get_or_past, length-map, length_push, map-append, take_more, map-id, length-drop, take-append-drop, length-replicate, length-set, get_or-replicate, get_or-set_other, get_or-set_same, take_all}
pub use Rattle.std.proofs.lemmas.List.Elements.{All-append, All-cons, All-head, All-nil, All-tail, Contains-append_cases, Contains-append_left, Contains-append_right, Contains-push, All-take, All-drop, filter-append, All-map, All-filter, All-weaker}
pub use Rattle.std.proofs.lemmas.{List.Sums.{sum_by-cons, sum_by-set}, Option.{none-some, same_Some, get_or_from_slice_get, unwrap_or-slice_get}, Result.on_ok_weaker}
pub use Rattle.std.specs.{Io.KnownBytes.Appends, List.{range_with_len, position_or_len}, Option.option_map_or}
pub use Rattle.snoop_trace.proofs.GathersLemmas.{gathers_cut, gathers_done, gathers_more, gathers_spilled, gathers_stop}
pub use Rattle.snoop_trace.proofs.{OutputLemmas.{appends_none_of, on_err, appends_none, appends_more, front_after}, WordPlaces.{word_there, asked_within}}
pub use Rattle.snoop_trace.specs.{Asked.{step_of, asked_of}, Extent.{Extent, IsWithinLimits}, Grammar.{IsRowWithin, word_asked, block_at}, declared.step.Op.Op}
pub use Rattle.snoop_trace.specs.{Output.{AppendsFront, Gathers, Spills}, Words.{word_at, HasWord}, declared.{fault.WriteFault.WriteFault, step.Asked.Asked}}
pub use Rattle.snoop_trace.specs.declared.{protocol.Protocol.Protocol, step.{Op.TheVariants.Evict, Row.Row, Step.{Step, TheVariants.{Ask, Order, Respond}}, Work.Work}}
pub use Rattle.snoop_rules.{proofs.TextLemmas.piece_more, specs.{Cell.{cell_of, Cell}, Waits.waiting_request, declared.names.CacheCell.CacheCell}}
pub use Rattle.snoop_rules.specs.{TableOrder.{cache_events, cache_states, memory_events, memory_states}, declared.names.CacheEvent.CacheEvent}
pub use Rattle.snoop_rules.specs.{Takers.{arrival, arrival_at_memory, asked, at_memory, seen_by, takes_payload, other, own}, declared.names.MemEvent.MemEvent}
pub use Rattle.snoop_rules.specs.declared.names.{CacheState.{CacheState, TheVariants.I}, MemState.MemState, Request.{Request, TheVariants.PutM}}
pub use Rattle.{snoop_bus.specs.{Queues.queue_of, Traffic.Open}, snoop_history.specs.declared.items.{Did.Did, Item.Item}}
pub use Rattle.snoop_model.{proofs.{Runs.GoOn.runs_go_on, Turns.turn_rule}, specs.{Invariant.Invariant.Invariant, Moves.LookUps.{ConsultsCache, ConsultsMemory}}}
pub use Rattle.snoop_model.specs.Moves.Move.{ArrivesFor, Asks, FirstMove, IsAbsent, IsWithin, Responds, TakesFirst, Settles}
pub use Rattle.snoop_model.specs.{Pictures.{Lines.Line, Picture.{Picture, held_at, held_by, nothing_held, with_line}, Proper.keeps}, Turns.Quiet.IsQuiet}
pub use Rattle.snoop_model.specs.{Pictures.Situation.{Situation, picture_of, reset, state_of, nothing_there, untouched}, Turns.Turn.turn_of}
pub use Rattle.snoop_model.specs.{Runs.Run.{FirstRunFrom, GoesFirst, TheRun}, Turns.Serving.{IsUnderWay, steps_paid, IsServing, has_transaction, steps_owed}}
pub use Rattle.snoop_model.specs.declared.replies.{Refused.{Refused, TheVariants.{BusTaken, Stalled, NoTransaction}}, Reply.Reply}
pub use Rattle.snoop_engine.specs.{PossibleHolders.{ArePossibleHolders, AreOthersInI}, Chosen.{Chosen, is_shown}, Fault.fault_of_write, Words.spaced}
pub use Rattle.snoop_engine.specs.Counts.{takes_memory_row, takes_row, all_lines, counts_text, frames_counts_text, memory_count_at, cache_count_at}
pub use Rattle.snoop_engine.specs.{Courses.{CanEnd, CanEndFrom, LeadsListed, LeadsToEndWith, Leading, LeadsOn}, Inputs.{GivesSteps, StepsServe, StepsServeSerially}}
pub use Rattle.snoop_engine.specs.{Frames.{Frame, FramesAreTheRun, FramesFrom, outcomes_of, steps_of, AreFrames}, Journey.{IsAtTheEnd, IsAtTheStart}}
pub use Rattle.snoop_engine.specs.InOrder.{InOrder, IsInOrder, TakesUpNext, row_under_way, EndsInOrder, remaining_in_order, LeadsToRest}
pub use Rattle.snoop_engine.specs.{Numbered.{Numbered, numbered_from, led_to}, Serial.{ask_for, is_ask, ServesSerially, all_asks}, Widths.{most_stored, stored}}
pub use Rattle.snoop_engine.specs.Packed.{step_by, step_of_head, steps_in, stored_by, stored_in, worded_by, worded_in, largest, values_of, words_of}
pub use Rattle.snoop_engine.specs.Round.{AsksWhenQuiet, Progress, TakesUp, remaining, IsEnabled, IsFit, IsIdle, IsWorkWithin, IsOver, IsTodoWithin, IsUnasked}
pub use Rattle.snoop_engine.specs.{Served.{ask_of, is_operation, AsksOneByOne, IsQuietFor, LeadsToQuietFor, Serves, asks_of}, Tallies.{Tallies, core_place, memory_place, counts_in, memory_counts_in}}
pub use Rattle.snoop_engine.specs.States.{kept_at, kept_text, place_text, value_text, header_text, shown_text, step_fields, taken_text, memory_value_at}
pub use Rattle.snoop_engine.specs.Taken.{of_holder, unless_i, lines_of_step, state_at, event_asked, of_ask, of_core, of_memory, of_requestor, of_waiting_memory, of_arrival_at_memory, refused_by}
pub use Rattle.snoop_engine.specs.Todo.{Todo, todo_of, left_in, asked_by, lanes_under_way, block_of_work, IsAskedWithin, nothing_to_do, works_by, works_of}
pub use Rattle.snoop_engine.specs.{TrueLines.{DoesNothing, FitsStep, HasAllLines, ShowsRows, HasTakenRows}, UnderWay.{ServesOnly, nothing, only}}
pub use Rattle.snoop_engine.specs.{Views.{shown, view_text, IsNextSeen, block_of_step, frame_seen}, declared.{fault.SimFault.SimFault, seen.Seen.Seen}}
pub use Rattle.snoop_engine.specs.declared.{input.Input.TheVariants.{Rows, SerialRows}, taken.Taken.{Taken, TheVariants.{Core, Memory}}}
