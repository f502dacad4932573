-- The items that a log's packed items stand for.
-- Source: this project's profile.
use Rattle.std.specs.{Prelude.{◌+◌, ◌*◌, ◌^◌, ◌<◌, Bool, true, false, Some, None, if◌then◌else◌}, Option.ForSome}
use Rattle.snoop_rules.specs.declared.names.{Request.{Request, TheVariants.{GetS, GetM, PutM}}, Payload.{Payload, TheVariants.{Data, DataE, NoData, NoDataE}}}
use Rattle.snoop_history.specs.declared.{items.{Did.Did, Sent.Sent, Came.Came, Item.Item}, packed.{Kind.Kind, Message.Message, Packed.Packed}}
use Rattle.snoop_history.specs.declared.items.Item.TheVariants as item
use Rattle.snoop_history.specs.declared.packed.Kind.TheVariants as kind
use Rattle.snoop_history.specs.declared.packed.Message.TheVariants as message
use Rattle.snoop_history.specs.History.{operation_of}

-- the operation was a load
abbrev pub is_load_kind : Kind → Bool
is_load_kind kind.LoadHit = true
is_load_kind kind.LoadMiss = true
is_load_kind kind.CameLoadHit = true
is_load_kind kind.CameLoadMiss = true
is_load_kind _ = false

-- the operation was a hit
abbrev pub is_hit_kind : Kind → Bool
is_hit_kind kind.LoadHit = true
is_hit_kind kind.StoreHit = true
is_hit_kind kind.CameLoadHit = true
is_hit_kind kind.CameStoreHit = true
is_hit_kind _ = false

-- the request
abbrev pub request_of : Message → Request
request_of message.GetSDataOfMemory = GetS
request_of message.GetSDataEOfMemory = GetS
request_of message.GetSNoDataOfMemory = GetS
request_of message.GetSNoDataEOfMemory = GetS
request_of message.GetSDataOfCore = GetS
request_of message.GetSDataEOfCore = GetS
request_of message.GetSNoDataOfCore = GetS
request_of message.GetSNoDataEOfCore = GetS
request_of message.GetMDataOfMemory = GetM
request_of message.GetMDataEOfMemory = GetM
request_of message.GetMNoDataOfMemory = GetM
request_of message.GetMNoDataEOfMemory = GetM
request_of message.GetMDataOfCore = GetM
request_of message.GetMDataEOfCore = GetM
request_of message.GetMNoDataOfCore = GetM
request_of message.GetMNoDataEOfCore = GetM
request_of message.PutMDataOfMemory = PutM
request_of message.PutMDataEOfMemory = PutM
request_of message.PutMNoDataOfMemory = PutM
request_of message.PutMNoDataEOfMemory = PutM
request_of message.PutMDataOfCore = PutM
request_of message.PutMDataEOfCore = PutM
request_of message.PutMNoDataOfCore = PutM
request_of message.PutMNoDataEOfCore = PutM

-- what the response carries
abbrev pub payload_in : Message → Payload
payload_in message.GetSDataOfMemory = Data
payload_in message.GetMDataOfMemory = Data
payload_in message.PutMDataOfMemory = Data
payload_in message.GetSDataOfCore = Data
payload_in message.GetMDataOfCore = Data
payload_in message.PutMDataOfCore = Data
payload_in message.GetSDataEOfMemory = DataE
payload_in message.GetMDataEOfMemory = DataE
payload_in message.PutMDataEOfMemory = DataE
payload_in message.GetSDataEOfCore = DataE
payload_in message.GetMDataEOfCore = DataE
payload_in message.PutMDataEOfCore = DataE
payload_in message.GetSNoDataOfMemory = NoData
payload_in message.GetMNoDataOfMemory = NoData
payload_in message.PutMNoDataOfMemory = NoData
payload_in message.GetSNoDataOfCore = NoData
payload_in message.GetMNoDataOfCore = NoData
payload_in message.PutMNoDataOfCore = NoData
payload_in message.GetSNoDataEOfMemory = NoDataE
payload_in message.GetMNoDataEOfMemory = NoDataE
payload_in message.PutMNoDataEOfMemory = NoDataE
payload_in message.GetSNoDataEOfCore = NoDataE
payload_in message.GetMNoDataEOfCore = NoDataE
payload_in message.PutMNoDataEOfCore = NoDataE

-- a core sent the response
abbrev pub is_of_core : Message → Bool
is_of_core message.GetSDataOfCore = true
is_of_core message.GetMDataOfCore = true
is_of_core message.PutMDataOfCore = true
is_of_core message.GetSDataEOfCore = true
is_of_core message.GetMDataEOfCore = true
is_of_core message.PutMDataEOfCore = true
is_of_core message.GetSNoDataOfCore = true
is_of_core message.GetMNoDataOfCore = true
is_of_core message.PutMNoDataOfCore = true
is_of_core message.GetSNoDataEOfCore = true
is_of_core message.GetMNoDataEOfCore = true
is_of_core message.PutMNoDataEOfCore = true
is_of_core _ = false

-- the operation of a packed item
abbrev pub operation_in : Packed → Did
operation_in p = record { core = p.did_core; number = p.number_low + p.number_high * 2 ^ 32; block = p.did_block; word = p.word; load = is_load_kind p.kind; value = p.value; hit = is_hit_kind p.kind }

-- its request
abbrev pub request_in : Packed → Sent
request_in p = record { core = p.core; request = request_of p.message; block = p.block }

-- its response
abbrev pub response_in : Packed → Came
response_in p = record { core = p.core; request = request_of p.message; block = p.block; from = if is_of_core p.message then Some p.from else None; payload = payload_in p.message }

-- an item of this kind with what a packed item has
abbrev pub item_of : Kind → Packed → Item
item_of kind.Sent p = item.Sent (request_in p)
item_of kind.Came p = item.Came (response_in p) None
item_of kind.LoadHit p = item.Did (operation_in p)
item_of kind.LoadMiss p = item.Did (operation_in p)
item_of kind.StoreHit p = item.Did (operation_in p)
item_of kind.StoreMiss p = item.Did (operation_in p)
item_of kind.CameLoadHit p = item.Came (response_in p) (Some (operation_in p))
item_of kind.CameLoadMiss p = item.Came (response_in p) (Some (operation_in p))
item_of kind.CameStoreHit p = item.Came (response_in p) (Some (operation_in p))
item_of kind.CameStoreMiss p = item.Came (response_in p) (Some (operation_in p))

-- the item
abbrev pub unpacked : Packed → Item
unpacked p = item_of p.kind p

-- the number of the item's operation, if it has one, fits in six bytes
abbrev pub NumberFits : Item → Type 0
NumberFits entry = ForSome (operation_of entry) (λ did. did.number < 2 ^ 48)
