-- What a reader has read, in the words of objects.
use Rattle.std.specs.Prelude.{◌≡◌, ℕ, ◌+◌, ◌<◌, ◌≤◌, Bool, true, false, List, [], length, take, drop, Some, None, Option}
use Rattle.object.specs.Objects.{Begins, Unread, Lacks, header_size, nests}
use Rattle.object.specs.Trees.{Tiled, Broken}
use Rattle.object.specs.Reading.{Head}
use Rattle.object.specs.declared.header.Header.{Header}
use Rattle.object.specs.declared.object.Object.{Object}
use Rattle.object.specs.declared.object.Object.TheVariants.{Plain, Nested}
use Rattle.object.specs.declared.reader.Reader.{Reader}
use Rattle.object.specs.declared.reader.Value.{Value}

-- a header of the code, as the definitions have it
abbrev pub head : Option Header → Option Head
head None = None
head (Some h) = Some (record { tag = h.tag; size = h.size; len = h.length })

-- which tag, place and value belong to an object, and whether it is nested
abbrev pub tag : Object → ℕ
tag (Plain t p v) = t
tag (Nested t p v) = t

abbrev pub place : Object → ℕ
place (Plain t p v) = p
place (Nested t p v) = p

abbrev pub value : Object → List ℕ
value (Plain t p v) = v.now
value (Nested t p v) = v.now

abbrev pub is_nested_object : Object → Bool
is_nested_object (Plain t p v) = false
is_nested_object (Nested t p v) = true

-- what a reader has still to read
abbrev pub rest_of : Reader → List ℕ
rest_of a = drop a.position a.bytes.now

-- a reader before and after one object
pub record Taken (a b : Reader) (o : Object) : Type 0 where
  pub begins : Begins (rest_of a) (tag o) (value o) (rest_of b)
  pub kinds : is_nested_object o ≡ nests (tag o)
  pub bytes : b.bytes.now ≡ a.bytes.now
  pub at : place o ≡ a.position + header_size (tag o) (value o)
  pub position : b.position ≡ place o + length (value o)
  pub within : value o ≡ drop (place o) (take b.position a.bytes.now)

-- a reader at no object, which stays where it is
pub record Stuck (a b : Reader) : Type 0 where
  pub unread : Unread (rest_of a)
  pub bytes : b.bytes.now ≡ a.bytes.now
  pub position : b.position ≡ a.position

-- a reader before and after an object of this tag, and the object's value
pub record Took (a b : Reader) (t : ℕ) (v : Value) : Type 0 where
  pub begins : Begins (rest_of a) t v.bytes.now (rest_of b)
  pub bytes : b.bytes.now ≡ a.bytes.now
  pub at : v.place ≡ a.position + header_size t v.bytes.now
  pub position : b.position ≡ v.place + length v.bytes.now

-- a reader at no object of this tag, which stays where it is
pub record Missed (a b : Reader) (t : ℕ) : Type 0 where
  pub lacks : Lacks (rest_of a) t
  pub bytes : b.bytes.now ≡ a.bytes.now
  pub position : b.position ≡ a.position

-- a reader before exactly one object of this tag, which ends with the reader's bytes, and the object's value
pub record IsOnly (a : Reader) (t : ℕ) (v : Value) : Type 0 where
  pub begins : Begins (rest_of a) t v.bytes.now []
  pub at : v.place ≡ a.position + header_size t v.bytes.now
  pub ends : v.place + length v.bytes.now ≡ length a.bytes.now

-- a reader before and after objects that are sound at every level: what tiles the rest tiles the whole, and what is
-- broken is broken in the rest
pub record Goes (levels : ℕ) (a b : Reader) : Type 0 where
  pub tiled : Tiled levels (rest_of b) → Tiled levels (rest_of a)
  pub down : (k : ℕ) → Broken levels a.position (rest_of a) k
      → Broken levels b.position (rest_of b) k
  pub up : (k : ℕ) → Broken levels b.position (rest_of b) k
      → Broken levels a.position (rest_of a) k
  pub shorter : length (rest_of b) ≤ length (rest_of a)

pub record Step (levels : ℕ) (a b : Reader) : Type 0 where
  pub goes : Goes levels a b
  pub shorter : length (rest_of b) < length (rest_of a)
