-- What a search within the reach of a block says of all the bytes, and what is known of their front.
use Rattle.std.proofs.Common.{◌≡◌, ℕ, ◌+◌, ◌≤◌, ◌<◌, min, List, ◌++◌, length, take, drop, None, Some, refl, sym}
use Rattle.std.proofs.Common.{◌∙◌, ap, arith, length-append}
use Rattle.std.proofs.lemmas.Bool.{lt-ltb, le-ltb}
use Rattle.std.proofs.lemmas.List.{take-take, length-take, take_min, drop-append-le, length-take-le}
use Rattle.fs_frame.specs.Lines.{lines_of}
use Rattle.fs_frame.specs.Headers.{declared_by}
use Rattle.fs_frame.specs.Block.{head_of, head_in_front, front_of, fault_of}
use Rattle.fs_frame.specs.Front.{within_reach, IsLaidOut, IsCommandAt, IsScanned, StandsHead, StandsHeaded, IsFront, IsLookedAt}
use Rattle.fs_frame.specs.declared.length.Declared.TheVariants.{Length, Malformed}
use Rattle.fs_frame.specs.declared.fault.Fault.TheVariants.{TooLong, BadLength}
use Rattle.fs_frame.specs.declared.span.CommandLine.{CommandLine}
use Rattle.fs_frame.specs.declared.scan.Scan.{Scan}
use Rattle.fs_frame.specs.declared.front.Front.{Front}
use Rattle.fs_frame.specs.declared.front.Front.TheVariants.{Open, Headed, Spoilt}
use Rattle.fs_frame.proofs.FormLaws.{head_in_front-found, head_in_front-no_head, head_in_front-grown, head_in_front-stands}
use Rattle.fs_frame.proofs.FormLaws.{ShortHead, head_in_front-take}
use Rattle.fs_frame.proofs.BodyLaws.{front_of-open, front_with-fits, fault_of-append, take_behind}
use Rattle.fs_frame.proofs.ScanLaws.{IsScanned-fed}
use Rattle.fs_frame.proofs.CommandLaws.{IsCommandAt-head}

-- the part that is searched
pub within_reach-slice : (bytes : List ℕ) (end : ℕ) → end ≡ min (length bytes) 65536 → take end bytes ≡ within_reach bytes
unfolding within_reach
within_reach-slice bytes end is =
    let other : end ≡ min 65536 (length bytes) = omega arith in
    rw other (take_min 65536 bytes)

length-reach : (bytes : List ℕ) → (length (within_reach bytes) ≤ 65536) × (length (within_reach bytes) ≤ length bytes)
unfolding within_reach
length-reach bytes = (omega (arith, length-take 65536 bytes), omega (arith, length-take 65536 bytes))

head_in_front-reach : (bytes : List ℕ) → head_in_front (within_reach bytes) ≡ head_in_front bytes
unfolding within_reach
head_in_front-reach bytes = head_in_front-take 65536 bytes (omega arith)

take-reach : (bytes : List ℕ) (len : ℕ) → len ≤ 65536 → take len (within_reach bytes) ≡ take len bytes
unfolding within_reach
take-reach bytes len fits = take-take len 65536 bytes fits

-- the head that was found within reach stands in front
pub record HeadFound (bytes : List ℕ) (len : ℕ) (command : CommandLine) : Type 0 where
  pub within : len ≤ length bytes
  pub short : length (take len bytes) ≤ 65536
  pub stands : head_in_front bytes ≡ Some (take len bytes)
  pub command_is : IsCommandAt (take len bytes) command

pub head_found : (bytes : List ℕ) (len : ℕ) (command : CommandLine) → StandsHead (within_reach bytes) len command →
    HeadFound bytes len command
head_found bytes len command found =
    let reach : (length (within_reach bytes) ≤ 65536) × (length (within_reach bytes) ≤ length bytes) = length-reach bytes in
    let same : take len (within_reach bytes) ≡ take len bytes = take-reach bytes len (omega (arith, found.within)) in
    let few : length (take len (within_reach bytes)) ≤ 65536 =
    omega (arith, length-take-le len (within_reach bytes) found.within, found.within) in
    record {
      within = omega (arith, found.within);
      short = rw (← same) few;
      stands = sym (head_in_front-reach bytes)
          ∙ head_in_front-found (within_reach bytes) (take len (within_reach bytes)) found.head few
          ∙ ap (λ (bs : List ℕ). Some bs) same;
      command_is = rw (← same) found.command_is;
    }

-- no head was found within reach
pub no_head_found : (bytes : List ℕ) → head_of (lines_of (within_reach bytes)) ≡ None → head_in_front bytes ≡ None
no_head_found bytes nothing = sym (head_in_front-reach bytes) ∙ head_in_front-no_head (within_reach bytes) nothing

-- and none can come, where more bytes are there
pub spoilt_by_many : (bytes : List ℕ) → head_of (lines_of (within_reach bytes)) ≡ None → 65536 < length bytes →
    fault_of bytes ≡ Some (TooLong 65537)
unfolding fault_of
spoilt_by_many bytes nothing many = rw (no_head_found bytes nothing, lt-ltb 65536 (length bytes) many) refl

-- or one may
pub still_open : (bytes : List ℕ) (scan : Scan) → IsScanned (within_reach bytes) scan → head_of (lines_of (within_reach bytes)) ≡ None →
    length bytes ≤ 65536 → IsLookedAt bytes (Open scan)
unfolding front_of fault_of
still_open bytes scan scanned nothing few =
    (scanned, rw (no_head_found bytes nothing) refl, rw (no_head_found bytes nothing, le-ltb 65536 (length bytes) few) refl)

-- ---- behind a head

pub spoilt_by_length : (bytes head : List ℕ) → head_in_front bytes ≡ Some head → declared_by head ≡ Malformed →
    fault_of bytes ≡ Some BadLength
unfolding fault_of
spoilt_by_length bytes head stands declares = rw (stands, declares) refl

pub spoilt_by_body : (bytes head : List ℕ) (body : ℕ) → head_in_front bytes ≡ Some head → declared_by head ≡ Length body →
    65536 < length head + body → fault_of bytes ≡ Some (TooLong (length head + body))
unfolding fault_of
spoilt_by_body bytes head body stands declares over = rw (stands, declares, lt-ltb 65536 (length head + body) over) refl

pub headed : (bytes head : List ℕ) (body : ℕ) (command : CommandLine) → head_in_front bytes ≡ Some head → declared_by head ≡ Length body →
    length head + body ≤ 65536 → IsCommandAt head command → StandsHeaded bytes (length head + body) command
headed bytes head body command stands declares fits command_is =
    record { head = head; body = body; stands = stands; declares = declares; len_is = refl; within = fits; command_is = command_is }

-- ---- what was known stays known

IsFront-fed : (bytes piece : List ℕ) (front : Front) → IsFront bytes front → IsFront (bytes ++ piece) front
unfolding within_reach
IsFront-fed bytes piece (Open scan) is = IsScanned-fed 65536 bytes piece scan is
IsFront-fed bytes piece (Headed len command) is = record {
  head = is.head;
  body = is.body;
  stands = head_in_front-grown bytes piece is.head is.stands;
  declares = is.declares;
  len_is = is.len_is;
  within = is.within;
  command_is = is.command_is;
}
IsFront-fed bytes piece (Spoilt fault) is = fault_of-append bytes piece fault is

-- a buffer with one more piece
pub IsLaidOut-fed : (bytes piece : List ℕ) (lent start : ℕ) (front : Front) → IsLaidOut bytes lent start front →
    IsLaidOut (bytes ++ piece) lent start front
IsLaidOut-fed bytes piece lent start front laid_out = record {
  lent_within = laid_out.lent_within;
  start_within = omega (arith, laid_out.start_within, length-append bytes piece);
  is_front = rw (drop-append-le start bytes piece laid_out.start_within) (IsFront-fed (drop start bytes) piece front laid_out.is_front);
}

-- ---- the block behind a head

-- all of it is there
pub headed_whole : (bytes : List ℕ) (len : ℕ) (command : CommandLine) → StandsHeaded bytes len command → len ≤ length bytes →
    (front_of bytes ≡ Some (take len bytes)) × IsCommandAt (take len bytes) command
unfolding front_of
headed_whole bytes len command headed there = (
  found,
  rw parts (IsCommandAt-head headed.head (take headed.body short.more) command
      short.is_head headed.command_is),
)
  where
    short : ShortHead headed.head bytes
    short = head_in_front-stands bytes headed.head headed.stands

    found : front_of bytes ≡ Some (take len bytes)
    found = rw (headed.stands, headed.declares, ← headed.len_is) (front_with-fits len bytes there headed.within)

    parts : take len bytes ≡ headed.head ++ take headed.body short.more
    parts = ap (take len) short.split ∙ ap (λ (n : ℕ). take n (headed.head ++ short.more)) headed.len_is
        ∙ take_behind headed.head short.more headed.body

-- not all of it is there
pub headed_open : (bytes : List ℕ) (len : ℕ) (command : CommandLine) → StandsHeaded bytes len command → length bytes < len →
    (front_of bytes ≡ None) × (fault_of bytes ≡ None)
unfolding fault_of
headed_open bytes len command headed few = (
  front_of-open bytes headed.head headed.body headed.stands headed.declares (omega (arith, few, headed.len_is)),
  rw (headed.stands, headed.declares, le-ltb 65536 (length headed.head + headed.body) (omega (arith, headed.len_is, headed.within)))
      refl,
)
