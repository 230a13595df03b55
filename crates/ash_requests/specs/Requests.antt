-- What is asked, and what is replied.
use Rattle.std.specs.Prelude.{ℕ, List}
use Rattle.ash_host.specs.declared.word.Word.{Word}
use Rattle.ash_host.specs.declared.event.Event.{Event}
use Rattle.ash_meaning.specs.Ends.{End}
use Rattle.ash_requests.specs.declared.argument.Arg.{Arg}

pub data Request : Type 0 where
  Load : (module_name source : List ℕ) → Request
  Call : (module_name function : List ℕ) (arguments : List Arg) → Request
  Discard : (module_name : List ℕ) → Request
  Get : (module_name name : List ℕ) → Request
  Object : (number : ℕ) → Request
  Seq : Request
  Snapshot : Request

-- Why a request is refused; a source is refused for its first fault. The last four causes are not in the state: the
-- host must be opened again, a disk failed, memory was refused, or the number of the store's generation is the
-- greatest.
pub data Refusal (Fault : Type 0) : Type 0 where
  SequenceSpent : Refusal Fault
  BadName : Refusal Fault
  ModuleTaken : Refusal Fault
  TooManyModules : Refusal Fault
  BadSource : (fault : Fault) → Refusal Fault
  NoModule : Refusal Fault
  NoFunction : Refusal Fault
  NotCallable : Refusal Fault
  BadArguments : Refusal Fault
  NoGlobal : Refusal Fault
  NoObject : Refusal Fault
  Reopen : Refusal Fault
  DeviceFailed : Refusal Fault
  NoMemory : Refusal Fault
  GenerationSpent : Refusal Fault

-- what is in an object: its fields by name, the state of a host object, or the elements of an array
pub data ObjectContents : Type 0 where
  Fields : (fields : List (List ℕ × Word)) → ObjectContents
  HostState : (state : List ℕ) → ObjectContents
  Elements : (elements : List Word) → ObjectContents

-- An object as a reply shows it: its number, the name of its type, its count and what is in it. A class has the name of
-- its module before its own, `m.C`.
pub record Shown : Type 0 where
  pub number : ℕ
  pub type_name : List ℕ
  pub count : ℕ
  pub contents : ObjectContents

-- an answer has how a run ended, how many requests have been answered, and the events
pub data Reply (Fault : Type 0) : Type 0 where
  Answered : (end : End) (seq : ℕ) (events : List Event) → Reply Fault
  Value : (word : Word) → Reply Fault
  ShownAs : (shown : Shown) → Reply Fault
  Number : (seq : ℕ) → Reply Fault
  Done : Reply Fault
  Refused : (refusal : Refusal Fault) → Reply Fault
