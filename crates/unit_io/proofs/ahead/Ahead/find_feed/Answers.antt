use Rattle.std.proofs.Common.{◌≡◌, ℕ, ◌+◌, ◌-◌, ◌≤◌, List, length, take, drop, Option, Some, None, ap, subst, arith}
use Rattle.std.proofs.lemmas.List.{length-take-le}
use Rattle.memchr.specs.Find.{IsFirstByte, Nowhere, Passes, is_byte}
use Rattle.unit_io.proofs.Feeds.{none_before, within, found_there, none_left, none_there}
use Rattle.unit_io.proofs.ahead.Ahead.find_feed.Goals as goal

-- what was found in the bytes that weren't searched
seen : (items bytes : List ℕ) (from : ℕ) (r is : Option ℕ) → bytes ≡ items → r ≡ is → IsFirstByte (is_byte 10) (take (length bytes - from) (drop from bytes)) r → IsFirstByte (is_byte 10) (take (length items - from) (drop from items)) is
seen items bytes from r is same told h =
    let moved : IsFirstByte (is_byte 10) (take (length items - from) (drop from items)) r =
    subst (λ (xs : List ℕ). IsFirstByte (is_byte 10) (take (length xs - from) (drop from xs)) r) same h in
    subst (IsFirstByte (is_byte 10) (take (length items - from) (drop from items))) told moved

pub invariant_of-self : goal.invariant_of-self
invariant_of-self c =
    let a = c.self.inside in
    let known : List ℕ = take a.end a.bytes.items in
    let h = seen known (take a.end c.deref.result.now) a.searched c.memchr.result (Some c.in-Some.k) (ap (take a.end) c.deref.ensures.value) c.in-Some.is c.memchr.ensures in
    let low : a.start ≤ a.searched = c.self.invariant.0 in
    let bound = within known a.start a.searched low c.self.invariant.3 c.in-Some.k h in
    let len : length known ≡ a.end = length-take-le a.end a.bytes.items c.self.invariant.2 in
    (omega (arith, low), omega (arith, bound, len), c.self.invariant.2, none_before known a.start a.searched low c.self.invariant.3 c.in-Some.k h)

pub invariant_of-self-in-None : goal.invariant_of-self-in-None
invariant_of-self-in-None c =
    let a = c.self.inside in
    let known : List ℕ = take a.end a.bytes.items in
    let h = seen known (take a.end c.deref.result.now) a.searched c.memchr.result None (ap (take a.end) c.deref.ensures.value) c.in-None.is c.memchr.ensures in
    let len : length known ≡ a.end = length-take-le a.end a.bytes.items c.self.invariant.2 in
    let none : Nowhere (Passes (is_byte 10) known) a.start a.end =
    subst (Nowhere (Passes (is_byte 10) known) a.start) len (none_left known a.start a.searched c.self.invariant.0 c.self.invariant.3 h) in
    (omega (arith, c.self.invariant.0, c.self.invariant.1), omega arith, c.self.invariant.2, none)

pub returns-in-Some-clause-found : goal.returns-in-Some-clause-found
returns-in-Some-clause-found c =
    let a = c.self.inside in
    let known : List ℕ = take a.end a.bytes.items in
    let h = seen known (take a.end c.deref.result.now) a.searched c.memchr.result (Some c.in-Some.k) (ap (take a.end) c.deref.ensures.value) c.in-Some.is c.memchr.ensures in
    subst (λ (xs : List ℕ). IsFirstByte (is_byte 10) xs (Some (a.searched + c.in-Some.k - a.start))) c.self.view_is
    (found_there known a.start a.searched c.self.invariant.0 c.self.invariant.3 c.in-Some.k h)

pub returns-in-None-clause-found : goal.returns-in-None-clause-found
returns-in-None-clause-found c =
    let a = c.self.inside in
    let known : List ℕ = take a.end a.bytes.items in
    let h = seen known (take a.end c.deref.result.now) a.searched c.memchr.result None (ap (take a.end) c.deref.ensures.value) c.in-None.is c.memchr.ensures in
    subst (λ (xs : List ℕ). IsFirstByte (is_byte 10) xs None) c.self.view_is
    (none_there known a.start a.searched c.self.invariant.0 c.self.invariant.3 h)
