-- Nodes: the neighbours of an entry in the queue of its key and among the keys of its session.
use Rattle.std.specs.Prelude.{ℕ, Bool, true, false, Option, Some, None}
use Rattle.mono_session.specs.declared.nodes.Node.{Node}
use Rattle.mono_session.specs.declared.places.Place.{Place}

-- A number, if its flag is set.
abbrev pub link : Bool → ℕ → Option ℕ
link false n = None
link true n = Some n

abbrev pub queue_place : Node → Place
queue_place node = record { before = link node.has_before node.before; after = link node.has_after node.after }

abbrev pub key_place : Node → Place
key_place node = record { before = link node.has_before_key node.before_key; after = link node.has_after_key node.after_key }

-- The place in one chain, if there is a node.
abbrev pub place_by : (Node → Place) → Option Node → Option Place
place_by place None = None
place_by place (Some node) = Some (place node)
