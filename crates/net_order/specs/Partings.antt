-- How far nodes are parted, those that lead to each other into one part.
use Rattle.std.specs.Prelude.{◌≡◌, ◌⊎◌, ◌↔◌, ◌+◌, ◌*◌, ◌<◌, ◌≤◌, ℕ, List, [], ◌∷◌, ◌++◌, Bool, true, false, Some, length, replicate, slice_get, slice_set}
use Rattle.flat_net.specs.declared.node.Node.{Node}
use Rattle.net_loops.specs.Loops.{Leads, Reads, ReadsItself}
use Rattle.net_order.specs.Marks.{Marked, Rising, Stands, unmarked}

pub record Parting : Type 0 where
  -- the nodes that the walk has come to
  pub seen : List Bool
  -- those whose part is found
  pub done : List Bool
  -- of these, those that read themselves
  pub looped : List Bool
  -- the nodes that are seen and not done, in the order in which they were seen
  pub waiting : List ℕ
  -- the place of each of them in that list, by its number
  pub places : List ℕ
  -- the way of the walk, by places in that list: readings lead from each node of it to the next
  pub way : List ℕ
  -- where in that list each part begins, as far as it is known
  pub firsts : List ℕ

abbrev pub unparted : ℕ → Parting
unparted count = record {
  seen = replicate count false;
  done = replicate count false;
  looped = replicate count false;
  waiting = [];
  places = replicate count 0;
  way = [];
  firsts = [];
}

-- with one more place at the end of the way
abbrev pub with_way : Parting → ℕ → Parting
with_way walk place = record {
  seen = walk.seen;
  done = walk.done;
  looped = walk.looped;
  waiting = walk.waiting;
  places = walk.places;
  way = walk.way ++ place ∷ [];
  firsts = walk.firsts;
}

-- with one more part
abbrev pub with_first : Parting → ℕ → Parting
with_first walk first = record {
  seen = walk.seen;
  done = walk.done;
  looped = walk.looped;
  waiting = walk.waiting;
  places = walk.places;
  way = walk.way;
  firsts = walk.firsts ++ first ∷ [];
}

abbrev pub with_firsts : Parting → List ℕ → Parting
with_firsts walk firsts = record {
  seen = walk.seen;
  done = walk.done;
  looped = walk.looped;
  waiting = walk.waiting;
  places = walk.places;
  way = walk.way;
  firsts = firsts;
}

-- with one more node that waits
abbrev pub with_last : Parting → ℕ → Parting
with_last walk node = record {
  seen = walk.seen;
  done = walk.done;
  looped = walk.looped;
  waiting = walk.waiting ++ node ∷ [];
  places = walk.places;
  way = walk.way;
  firsts = walk.firsts;
}

-- The walk comes to a node, which is a part of its own as yet.
abbrev pub entered : Parting → ℕ → Parting
entered walk node = record {
  seen = slice_set walk.seen node true;
  done = walk.done;
  looped = walk.looped;
  waiting = walk.waiting ++ node ∷ [];
  places = slice_set walk.places node (length walk.waiting);
  way = walk.way ++ length walk.waiting ∷ [];
  firsts = walk.firsts ++ length walk.waiting ∷ [];
}

-- A node is done, and is looped or not.
abbrev pub marked : Parting → ℕ → Bool → Parting
marked walk node answer = record {
  seen = walk.seen;
  done = slice_set walk.done node true;
  looped = slice_set walk.looped node answer;
  waiting = walk.waiting;
  places = walk.places;
  way = walk.way;
  firsts = walk.firsts;
}

-- It falls with each step: a node is seen once, and its place taken from the way once.
abbrev pub parting_size : Parting → ℕ
parting_size walk = 2 * unmarked walk.seen + length walk.way

-- Readings lead from a node to another, or it is the same.
abbrev pub IsLed : List Node → ℕ → ℕ → Type 0
IsLed nodes from to = (count : ℕ) × Leads nodes count from to

-- No part begins behind one place and up to another.
abbrev pub IsWithin : List ℕ → ℕ → ℕ → Type 0
IsWithin firsts place before = (first : ℕ) → Stands firsts first → first ≤ place → first ≤ before

-- The node at this place leads to one before it in its part.
pub record TurnsBack (nodes : List Node) (waiting firsts : List ℕ) (place node : ℕ) : Type 0 where
  pub before : ℕ
  pub earlier : ℕ
  pub lower : before < place
  pub there : slice_get waiting before ≡ Some earlier
  pub led : IsLed nodes node earlier
  pub within : IsWithin firsts place before

-- The node is done, or waits in the part of this place or behind it.
abbrev pub StaysIn : List Bool → List ℕ → List ℕ → ℕ → ℕ → Type 0
StaysIn done waiting firsts place next =
    Marked done next ⊎ ((other : ℕ) × ((slice_get waiting other ≡ Some next) × IsWithin firsts place other))

-- What holds of a walk at each step.
pub record IsParting (nodes : List Node) (walk : Parting) : Type 0 where
  pub seen_count : length walk.seen ≡ length nodes
  pub done_count : length walk.done ≡ length nodes
  pub looped_count : length walk.looped ≡ length nodes
  pub places_count : length walk.places ≡ length nodes
  -- What is done reads only what is done, and is looped exactly where it reads itself.
  pub done_seen : (node : ℕ) → Marked walk.done node → Marked walk.seen node
  pub closed : (node next : ℕ) → Marked walk.done node → Reads nodes node next → Marked walk.done next
  pub marks : (node : ℕ) → Marked walk.done node → Marked walk.looped node ↔ ReadsItself nodes node
  -- What is seen and not done waits, each node at its place.
  pub known : (node : ℕ) → Marked walk.seen node → Marked walk.done node ⊎ Stands walk.waiting node
  pub ahead_seen : (place node : ℕ) → slice_get walk.waiting place ≡ Some node → Marked walk.seen node
  pub ahead : (place node : ℕ) → slice_get walk.waiting place ≡ Some node → slice_get walk.done node ≡ Some false
  pub placed : (place node : ℕ) → slice_get walk.waiting place ≡ Some node → slice_get walk.places node ≡ Some place
  -- A node of the way leads to all that waits behind it.
  pub way_rises : Rising walk.way
  pub way_inside : (place : ℕ) → Stands walk.way place → place < length walk.waiting
  pub leads : (place other from to : ℕ) → Stands walk.way place → place ≤ other → slice_get walk.waiting place ≡ Some from →
      slice_get walk.waiting other ≡ Some to → IsLed nodes from to
  -- Each part begins with a node of the way, and the others of it lead back to that one.
  pub firsts_rise : Rising walk.firsts
  pub firsts_way : (first : ℕ) → Stands walk.firsts first → Stands walk.way first
  pub back : (place node : ℕ) → slice_get walk.waiting place ≡ Some node →
      Stands walk.firsts place ⊎ TurnsBack nodes walk.waiting walk.firsts place node
  -- A node that waits and has left the way reads nothing before its part.
  pub left : (place node : ℕ) → slice_get walk.waiting place ≡ Some node →
      Stands walk.way place ⊎
      ((next : ℕ) → Reads nodes node next → StaysIn walk.done walk.waiting walk.firsts place next)

-- ---- what waits has its place

pub record HasPlaces (walk : Parting) : Type 0 where
  pub done_count : length walk.done ≡ length walk.seen
  pub looped_count : length walk.looped ≡ length walk.seen
  pub places_count : length walk.places ≡ length walk.seen
  pub known : (node : ℕ) → Marked walk.seen node → Marked walk.done node ⊎ Stands walk.waiting node
  pub ahead : (place node : ℕ) → slice_get walk.waiting place ≡ Some node → slice_get walk.done node ≡ Some false
  pub placed : (place node : ℕ) → slice_get walk.waiting place ≡ Some node → slice_get walk.places node ≡ Some place

-- ---- how far back a node's readings go

-- Each of these nodes is done or waits at this place or behind it; it is the place of one of them, or that of the node.
pub record IsLowFor (reads : ℕ → Type 0) (walk : Parting) (place low : ℕ) : Type 0 where
  pub all : (next : ℕ) → reads next →
      Marked walk.done next ⊎ ((other : ℕ) × ((slice_get walk.waiting other ≡ Some next) × (low ≤ other)))
  pub one : (low ≡ place) ⊎ ((next : ℕ) × (reads next × (slice_get walk.waiting low ≡ Some next)))

abbrev pub IsLow : List Node → Parting → ℕ → ℕ → ℕ → Type 0
IsLow nodes walk place node low = IsLowFor (Reads nodes node) walk place low

-- ---- parts are joined

-- Those up to a place are left.
pub record IsCut (place : ℕ) (old new : List ℕ) : Type 0 where
  pub rises : Rising new
  pub kept : (first : ℕ) → Stands new first → Stands old first
  pub below : (first : ℕ) → Stands new first → first ≤ place
  pub rest : (first : ℕ) → Stands old first → first ≤ place → Stands new first

-- ---- a part is taken

-- The nodes that waited from some place on are done, and all of them looped or not.
pub record IsTaken (answer : Bool) (old new : Parting) : Type 0 where
  pub same : new ≡ record old { done = new.done; looped = new.looped; waiting = new.waiting }
  pub done_count : length new.done ≡ length old.done
  pub looped_count : length new.looped ≡ length old.looped
  pub grows : (node : ℕ) → Marked old.done node → Marked new.done node
  pub kept_marks : (node : ℕ) → Marked old.done node → slice_get new.looped node ≡ slice_get old.looped node
  pub done_back : (node : ℕ) → Marked new.done node →
      Marked old.done node ⊎ ((place : ℕ) × ((slice_get old.waiting place ≡ Some node) × (length new.waiting ≤ place)))
  pub kept : (place node : ℕ) → slice_get new.waiting place ≡ Some node → slice_get old.waiting place ≡ Some node
  pub ahead : (place node : ℕ) → slice_get new.waiting place ≡ Some node → slice_get new.done node ≡ Some false
  pub rest : (place node : ℕ) → slice_get old.waiting place ≡ Some node → place < length new.waiting →
      slice_get new.waiting place ≡ Some node
  pub taken : (place node : ℕ) → slice_get old.waiting place ≡ Some node → length new.waiting ≤ place →
      Marked new.done node × (slice_get new.looped node ≡ Some answer)

-- ---- what comes of it

-- Those that read themselves are marked, and no others.
pub record AreLoops (nodes : List Node) (marks : List Bool) : Type 0 where
  pub count : length marks ≡ length nodes
  pub marked : (node : ℕ) → node < length nodes → Marked marks node ↔ ReadsItself nodes node
