-- The names that lemmas of the machine use most, passed on from one place, and a lemma of lists.
pub use Rattle.std.proofs.Common.{◌≡◌, ℕ, List, [], ◌∷◌, length, replicate, Option, None, refl, ◌∙◌, ap, arith, inl, inr, ◌<◌, ◌-◌, ◌++◌, Some, sym, ◌≢◌, true, false, ◌+◌, ◌⊎◌, is_some, get_or, ◌≤◌, zero, suc, append-nil, not, filter, drop, map, take, cond, rules, vec_capacity, subst}
pub use Rattle.std.specs.Prelude.{slice_index_or, All, option_map, slice_set, slice_index, nat_eq, unwrap_or, option_to_list, ◌==◌, nat_lt, position, slice_get, if◌then◌else◌, Result, Ok, Err, is_ok, count_by, IfOk, IfErr, IfSome, IsOk, OnOk, IfNone, option_copied}
pub use Rattle.std.proofs.{Math.{ListN.get_or-map, Seq.map-set_same}, lemmas.Bool.{cases_lt, ne_eqb, cases_eq, true_from_ne_false, eq-eqb, false≢true}}
pub use Rattle.std.proofs.lemmas.{Grind.common_steps, List.Elements.{All-head, All-tail, filter-append}, Map.Made.is_some-lookup, Result.err_from_is_err_and}
pub use Rattle.std.proofs.lemmas.List.{length-replicate, get_or-replicate, get_or_past, length-set, length-append, get_or-set_same, get_or-set_other, map-set, set-get_or, length-map, get_or_read, map-append, take_more, get_or_default, set-set, take_all, length-drop}
pub use Rattle.std.{proofs.lemmas.Option.{same_Some, slice_get-map}, specs.{List.{range_with_len, prefix_len}, Map.{lookup, keys_of}}}
pub use Rattle.snoop_trace.specs.{Extent.Extent, Words.{Data, HasWord, zero_words}, declared.{protocol.Protocol.Protocol, step.{Op.Op, Step.Step}}}
pub use Rattle.snoop_trace.specs.declared.step.Step.TheVariants.{Ask, Order, Respond}
pub use Rattle.snoop_rules.specs.{Cell.{Cell, cell_of}, Takers.{arrival, arrival_at_memory, asked, at_memory, other, seen_by}, Waits.waiting_request}
pub use Rattle.snoop_rules.specs.declared.names.{CacheCell.CacheCell, CacheState.{CacheState, TheVariants.I}, Payload.Payload, Request.Request}
pub use Rattle.snoop_rules.specs.declared.names.Request.TheVariants.{GetM, GetS, PutM}
pub use Rattle.snoop_history.specs.{declared.items.{Came.Came, Did.Did, Item.Item}, Journal.Journal}
pub use Rattle.snoop_blocks.specs.CoreSet.{has}
pub use Rattle.snoop_bus.specs.Queues.{after_issue, after_order, place_in, queue_of}
pub use Rattle.snoop_bus.specs.Traffic.{Open, Starts, Traffic, Waiting, head_of, no_queue, transaction_on, waiting_of}
pub use Rattle.snoop_model.specs.{Invariant.{Invariant.Invariant, MachineKeeps.MachineKeeps}, Moves.Refuses.{RefusedFor, Refuses, WaitsOnNone}}
pub use Rattle.snoop_model.specs.Moves.Move.{ArrivesFor, Asks, Fills, FillsRequestor, FirstMove, IsAbsent, Performs, RespondMove, Takes, TakesRow, TakesRows, came_of, moves_to, next_did, written}
pub use Rattle.snoop_model.specs.Pictures.{Lines.{Line, MemLine}, Proper.{IsProper, keeps, missed_request, request_for}, Sends.{IsOnlySender, Sends}}
pub use Rattle.snoop_model.specs.Pictures.Picture.{Picture, first_memory, free_picture, held_at, held_by, kept_on, nothing_held, with_line}
pub use Rattle.snoop_model.specs.{Pictures.Situation.{IsHead, Situation, nothing_there, picture_of, state_of}, Runs.Run.{Goes, RunBy}}
pub use Rattle.snoop_model.{proofs.Lists.{each_set, if_some, replicated}, specs.declared.{access.Access.Access, replies.{Refused.Refused, Reply.Reply}}}
pub use Rattle.snoop_model.specs.declared.replies.Refused.TheVariants.{BusTaken, NoBlock, NoCore, NoMemory, NoTransaction, NothingWaiting, Stalled}
pub use Rattle.snoop_machine.specs.{AnyParts.stand, Following.{AddsLines, LosesLines}, Holding.{HoldsOn, MovesToI, NeedsLine}, Memory.{MemTables, memory_line}}
pub use Rattle.snoop_machine.specs.Cache.{Contents, KeepsMapRoom, WritesEntry, blocks_of, changed, filled_line, gone, line_in, line_or_nothing, lines_held, no_cache}
pub use Rattle.snoop_machine.specs.{Holders.{AreHolders, HaveFollowed, HaveMoved, StandsAs, concerns, no_holders}, Runs.{Answers, AnswersSafely, HasRun}}
pub use Rattle.snoop_machine.specs.Lines.{AreLines, Held, KeepsMapsRoom, LinesGo, MayMoveTo, WritesLine, WritesRow, held, held_by_block, is_among, line_at, row_of, with_line_at}
pub use Rattle.snoop_machine.specs.PartsView.{Fields, IsSized, IsSound, IsWhole, WaitsAs, fields, pictures_of, queues_of, requests_for, shown_line_room, shown_line_rooms, standing}
pub use Rattle.snoop_machine.specs.Plan.{HasRoom, HasRoomToAsk, IsClosing, IsPlan, IsPlanFor, entry_of, entry_of_ask, planned_step, room_for, room_for_ask}
pub use Rattle.snoop_machine.specs.{Prepared.{IsFull, IsPrepared, places, room_to}, Standing.{KeepsRoom, Standing, line_count}, declared.parts.step.Plan.Plan}
pub use Rattle.snoop_machine.specs.declared.{parts.step.Asked.TheVariants.{Absent, Drop, Issue, Hit}, lines.{LineChange.TheVariants.Wait, Holders.Holders}}
pub use Rattle.snoop_model.proofs.{Invariant.Coherence.{finds_rows, orders_follow_sender_table, sender_within}, Runs.Along.{run_more, seen_along, kept_along}}
pub use Rattle.snoop_model.proofs.{Invariant.Safety.{is_safe, kept_is_flat, move_keeps_all, reset_keeps}, Lines.{Taking, Taking-more, Taking-past}}
pub use Rattle.snoop_model.proofs.Lines.{Silent-all, Silent-more, Silent-none, Silent-past, SilentBelow}
pub use Rattle.snoop_model.proofs.Tables.Rows.{fill-waits, IsProper-fill, IsProper-order, issue-waits, IsProper-issue, IsProper-hit, IsProper-drop}
unfoldable pub use Rattle.snoop_model.specs.Invariant.Fits.{is_owner}

-- a function that gives the same at each place
pub constant : {X Y : Type 0} (f : X → Y) (xs : List X) (d : X) (y : Y) → ((k : ℕ) → f (slice_index_or xs k d) ≡ y) → map f xs ≡ replicate (length xs) y
constant f [] d y all = refl
constant f (x ∷ xs) d y all = rw (all 0, constant f xs d y (λ k. all (suc k))) refl
