-- Emitted code of a function, put together: the tick of its entry, its fields, its statements, and its end.
use Rattle.std.proofs.Common.{◌≡◌, ◌≤◌, ℕ, suc, ◌+◌, Bool, true, false, List, [], length, refl, sym, ap, ◌∙◌, subst}
use Rattle.std.proofs.Common.{arith}
use Rattle.std.specs.Prelude.{Option, Some, None, slice_get}
use Rattle.ash_host.specs.declared.word.Word.{Word}
use Rattle.ash_typed.specs.declared.types.VarType.{VarType}
use Rattle.ash_typed.specs.StatementTree.{Initialization, Stmts}
use Rattle.ash_meaning.specs.Activity.{Activity}
use Rattle.ash_meaning.specs.Runs.{Run, Progress, Done, Ended, NoStep, onward, give, look, ◌>>=◌, ◌>>◌}
use Rattle.ash_meaning.specs.Frames.{tick}
use Rattle.ash_meaning.specs.Classes.{Entry}
use Rattle.ash_meaning.specs.StatementMeaning.{Flow}
use Rattle.ash_meaning.specs.Functions.{value_of, body, initialize_fields}
use Rattle.ash_code.specs.declared.code.FunctionCode.{FunctionCode}
use Rattle.ash_code.specs.declared.instruction.Instruction.{Instruction}
use Rattle.ash_code.specs.declared.instruction.Instruction.TheVariants as i
use Rattle.ash_code.specs.Performing.{Setting}
use Rattle.ash_compile.specs.declared.builder.Written.{Written}
use Rattle.ash_compile.specs.declared.layout.Layout.{Layout}
use Rattle.ash_compile.specs.Stretches.{continued, Arrives}
use Rattle.ash_compile.specs.Performances.{here, Exits, Acts, Enters}
use Rattle.ash_compile.specs.Layout.{IsLayout}
use Rattle.ash_compile.specs.Callees.{Entering}
use Rattle.ash_compile.specs.Emission.{code_of, end_of, Keeps, Puts, Scene, IsScene, Suits, calls_of, Good, Stands}
use Rattle.ash_compile.specs.EmittedStatements.{Returns, EmitsBody, frame_end}
use Rattle.ash_compile.specs.EmittedParts.{IsWritten, ActsFrom, EmitsFields}
use Rattle.ash_compile.specs.EmittedFrames.{FrameSource, given_if, AreFieldsOf, no_field, all_fields, IsSoundEntry}
use Rattle.ash_compile.specs.ValidCode.{IsValidCode}
use Rattle.ash_compile.specs.EmittedFrames.{IsFrameCode}
use Rattle.ash_compile.proofs.Statements as code
use Rattle.ash_compile.proofs.Statements.{LeadsTo}
use Rattle.ash_compile.proofs.Leaving.{Ends, by_nothing, by_this}
use Rattle.ash_compile.proofs.Loops.{Spends}
use Rattle.ash_compile.proofs.Functions.{of_function, of_construction, finish}
use Rattle.ash_compile.proofs.Emission.{keeps_on, put_one, put_keeps, put_there, HasAt, has_put}
use Rattle.ash_compile.proofs.TypedStatements.{Ready, spends_give}
use Rattle.ash_compile.proofs.FunctionCode.{inside, does_frame}
use Rattle.ash_compile.proofs.FieldCode.{spends_fields, fields_of_class}
use Rattle.ash_compile.proofs.EmittedFields.{written_first, written_second}

-- runs that do the same

onward_same : {A B : Type 0} (p : Progress A) (f g : A → Run B) → ((v : A) (b : Activity) → f v b ≡ g v b)
    → onward p f ≡ onward p g
onward_same (Done v b) f g same = same v b
onward_same (Ended e b) f g same = refl
onward_same NoStep f g same = refl

enters_same : (s : Setting) (Good : Activity → Type 0) (function room parameters : ℕ) (run other : Run (Option Word))
    → ((a : Activity) → run a ≡ other a)
    → Enters s Good function room run parameters → Enters s Good function room other parameters
enters_same s Good function room parameters run other same enters = record {
  comes = λ callers size slots a rest long stands good leaves.
      subst (λ (p : Progress (Option Word)). Arrives s (here function 0 parameters slots callers) a (continued p rest))
      (same a) (enters.comes callers size slots a rest long stands good (λ value b next locals at last ran.
      leaves value b next locals at last (sym (same a) ∙ ran)));
}

-- a construction gives the object, whatever its statements return
gives_this : (p : Progress Flow)
    → onward p (finish of_construction)
    ≡ onward (onward p (λ f. give (value_of f))) (λ _. look (λ activity. Some (activity.frame).this))
gives_this (Done f b) = refl
gives_this (Ended e b) = refl
gives_this NoStep = refl

-- what a frame gives, by what its statements return
abbrev pub gives_of : Bool → Option Word → Word → Option Word
gives_of true = of_construction
gives_of false = of_function

pub returns_by : (constructs : Bool) (result : Option VarType) → (constructs ≡ true → result ≡ None)
    → Returns constructs result (gives_of constructs)
returns_by true result none = record
    { nothing = λ this. refl; value = λ of is v this. absurd (let no = none refl in cc) }
returns_by false result none = record { nothing = λ this. refl; value = λ of is v this. refl }

ends_by : (s : Scene) (Good : Activity → Type 0) (constructs : Bool) (exits : Exits) (at : ℕ)
    → exits.gives ≡ gives_of constructs
    → HasAt s at (frame_end constructs)
    → Ends s.setting Good s.function s.room exits at
ends_by s Good true exits at gives has =
    by_this has (λ this. ap (λ (g : Option Word → Word → Option Word). g None this) gives)
ends_by s Good false exits at gives has =
    by_nothing has (λ this. ap (λ (g : Option Word → Word → Option Word). g None this) gives)

module _ (s : Scene) (scene : IsScene s) where
  -- the frame, by what its code gives
  frame_gives : (constructs : Bool) (e : Entry)
      → Enters s.setting (Entering s.context (suc s.depth) s.env s.envs) s.function s.room
      (tick e.line >> (inside s scene e >>= finish (gives_of constructs))) (length (s.env).locals)
      → Enters s.setting (Entering s.context (suc s.depth) s.env s.envs) s.function s.room
      (tick e.line >> given_if constructs (body (s.context).program (suc s.depth) e)) (length (s.env).locals)
  frame_gives false e enters = enters
  frame_gives true e enters =
      enters_same s.setting (Entering s.context (suc s.depth) s.env s.envs) s.function s.room (length (s.env).locals)
      (tick e.line >> (inside s scene e >>= finish of_construction))
      (tick e.line >> given_if true (body (s.context).program (suc s.depth) e))
      (λ a. onward_same (tick e.line a) (λ _. inside s scene e >>= finish of_construction)
      (λ _. given_if true (body (s.context).program (suc s.depth) e)) (λ v b. gives_this (inside s scene e b)))
      enters

  -- the fields that the frame initializes

  leads_fields : (vs : List Initialization) → AreFieldsOf s.context s.env vs
      → Spends (Ready s) (initialize_fields (calls_of s) 0 vs)
  leads_fields _ no_field = spends_give (Ready s) tt
  leads_fields _ (all_fields {class = class} {source = source} this there) =
      spends_fields s scene class source this there 0 source.fields
      (fields_of_class s.context scene.sound class source there)

  acts_fields : (old new : Written) (vs : List Initialization) → AreFieldsOf s.context s.env vs
      → EmitsFields old new 0 vs (length (s.env).locals)
      → IsWritten s old new
      → ActsFrom s old new (length (s.env).locals) (initialize_fields (calls_of s) 0 vs)
  acts_fields old new _ no_field emits written =
      subst (λ (b : Written). ActsFrom s old b (length (s.env).locals) (initialize_fields (calls_of s) 0 []))
      (sym (emits.none refl))
      (code.acts_none s.setting (Good s) s.function s.room (end_of old) (length (s.env).locals))
  acts_fields old new _ (all_fields {class = class} {source = source} this there) emits written =
      emits.does s class source (record { scene = scene; this = this; there = there; locals = refl }) refl written

-- code that is written for a function
pub record WritesFrame (begun : Written) (line parameters : ℕ) (fields : List Initialization) (stmts : Stmts)
    (constructs : Bool) (last : Written) : Type 0 where
  pub empty : code_of begun ≡ []
  pub ticked : Written
  pub initialized : Written
  pub done : Written
  pub ticks : Puts begun ticked parameters (i.Tick line)
  pub fields_emitted : EmitsFields ticked initialized 0 fields parameters
  pub body_emitted : EmitsBody initialized done stmts parameters constructs
  pub ends : Puts done last parameters (frame_end constructs)

module _ (begun last : Written) (line parameters : ℕ) (fields : List Initialization) (stmts : Stmts)
    (constructs : Bool) (w : WritesFrame begun line parameters fields stmts constructs last) where
  starts : end_of begun ≡ 0
  starts = ap length w.empty

  keeps_tick : Keeps begun w.ticked
  keeps_tick = put_keeps begun w.ticked parameters (i.Tick line) w.ticks

  keeps_end : Keeps w.done last
  keeps_end = put_keeps w.done last parameters (frame_end constructs) w.ends

  keeps_body : Keeps w.initialized last
  keeps_body = keeps_on w.initialized w.done last (w.body_emitted).keeps keeps_end

  keeps_fields : Keeps w.ticked last
  keeps_fields = keeps_on w.ticked w.initialized last (w.fields_emitted).keeps keeps_body

  pub frame_layout : last.layout ≡ begun.layout
  frame_layout = (keeps_on begun w.ticked last keeps_tick keeps_fields).layout

  ticked_end : end_of w.ticked ≡ 1
  ticked_end = put_one begun w.ticked parameters (i.Tick line) w.ticks ∙ ap (λ (n : ℕ). n + 1) starts

  -- the first instruction
  pub frame_begins : slice_get (code_of last) 0 ≡ Some (i.Tick line)
  frame_begins =
      keeps_fields.same 0 (omega (arith, ticked_end))
      ∙ ap (λ (n : ℕ). slice_get (code_of w.ticked) n) (sym starts)
      ∙ put_there begun w.ticked parameters (i.Tick line) w.ticks

  module _ (s : Scene) (scene : IsScene s) (result : Option VarType) (e : Entry)
      (sound : IsSoundEntry s.context s.env result e)
      (line_is : e.line ≡ line) (fields_are : e.fields ≡ fields) (body_is : e.body ≡ stmts)
      (gives_nothing : constructs ≡ true → result ≡ None)
      (stands : Stands s (code_of last) 0 (end_of last)) (suits : Suits s last)
      (many : length (s.env).locals ≡ parameters) where
    written : IsWritten s begun last
    written = (subst (λ (n : ℕ). Stands s (code_of last) n (end_of last)) (sym starts) stands, suits)

    written_fields : IsWritten s w.ticked last
    written_fields = written_second s begun w.ticked last keeps_tick written

    written_body : IsWritten s w.initialized last
    written_body = written_second s w.ticked w.initialized last (w.fields_emitted).keeps written_fields

    has_tick : HasAt s 0 (i.Tick e.line)
    has_tick =
        subst (λ (n : ℕ). HasAt s 0 (i.Tick n)) (sym line_is)
        (subst (λ (n : ℕ). HasAt s n (i.Tick line)) starts
        (has_put s begun w.ticked (end_of begun) parameters (i.Tick line) (omega arith) w.ticks
        (written_first s begun w.ticked last keeps_fields written).0))

    does_fields : Acts s.setting (Good s) s.function s.room (initialize_fields (calls_of s) 0 e.fields) 1
        (end_of w.initialized) (length (s.env).locals) (length (s.env).locals)
    does_fields =
        subst (λ (n : ℕ). Acts s.setting (Good s) s.function s.room (initialize_fields (calls_of s) 0 e.fields) n
        (end_of w.initialized) (length (s.env).locals) (length (s.env).locals)) ticked_end
        (acts_fields s scene w.ticked w.initialized e.fields sound.fields
        (subst (λ (n : ℕ). EmitsFields w.ticked w.initialized 0 e.fields n) (sym many)
        (subst (λ (vs : List Initialization). EmitsFields w.ticked w.initialized 0 vs parameters) (sym fields_are)
        w.fields_emitted))
        (written_first s w.ticked w.initialized last keeps_body written_fields))

    has_end : HasAt s (end_of w.done) (frame_end constructs)
    has_end =
        has_put s w.done last (end_of w.done) parameters (frame_end constructs) (omega arith) w.ends
        (written_second s w.initialized w.done last (w.body_emitted).keeps written_body).0

    pub frame_does : Enters s.setting (Entering s.context (suc s.depth) s.env s.envs) s.function s.room
        (tick e.line >> given_if constructs (body (s.context).program (suc s.depth) e)) (length (s.env).locals)
    frame_does =
        let emitted = subst (λ (xs : Stmts). EmitsBody w.initialized w.done xs parameters constructs) (sym body_is)
        w.body_emitted in
        let here = written_first s w.initialized w.done last keeps_end written_body in
        let (exits, more, gives, does) = emitted.does s result (gives_of constructs) scene
        (returns_by constructs result gives_nothing) (sym many) sound.body here.0 here.1 in
        frame_gives s scene constructs e
        (subst (λ (g : Option Word → Word → Option Word). Enters s.setting
        (Entering s.context (suc s.depth) s.env s.envs)
        s.function s.room (tick e.line >> (inside s scene e >>= finish g)) (length (s.env).locals)) gives
        (does_frame s scene exits result e (end_of w.initialized) (end_of w.done) more sound.body
        (λ a b v good is. (leads_fields s scene e.fields sound.fields a b v good is).0) has_tick does_fields does
        (ends_by s (Entering s.context (suc s.depth) s.env s.envs) constructs exits (end_of w.done) gives has_end)))

-- the code of a frame
pub frame_code : (begun last : Written) (line parameters : ℕ) (fields : List Initialization) (stmts : Stmts)
    (constructs : Bool) (f : FunctionCode) (x : FrameSource)
    → WritesFrame begun line parameters fields stmts constructs last
    → f.line ≡ line → f.parameters ≡ parameters → (f.instructions).items ≡ code_of last → last.slots ≤ f.slots
    → IsValidCode begun.layout f
    → (x.entry).line ≡ line → (x.entry).fields ≡ fields → (x.entry).body ≡ stmts
    → x.parameters ≡ parameters → x.constructs ≡ constructs
    → IsFrameCode begun.layout x f
frame_code begun last line parameters fields stmts constructs f x w line_f many_f code_f slots_f valid_f line_x
    fields_x body_x
    many_x constructs_x = record {
      line = line_f ∙ sym line_x;
      parameters = many_f ∙ sym many_x;
      begins = ap (λ (is : List Instruction). slice_get is 0) code_f
          ∙ frame_begins begun last line parameters fields stmts constructs w
          ∙ ap (λ (n : ℕ). Some (i.Tick n)) (sym line_x);
      valid = valid_f;
      enters = λ s result scene sound nothing many code slots layout.
          let stands : Stands s (code_of last) 0 (end_of last)
          = λ k low high. ap (λ (g : FunctionCode). slice_get (g.instructions).items k) code
          ∙ ap (λ (is : List Instruction). slice_get is k) code_f in
          let suits : Suits s last
          = record {
            slots = omega (arith, slots_f, slots);
            layout = subst (λ (l : Layout). IsLayout ((s.setting).code).module ((s.context).program).tree l)
                (sym (frame_layout begun last line parameters fields stmts constructs w)) layout;
          } in
          subst (λ (n : ℕ). Enters s.setting (Entering s.context (suc s.depth) s.env s.envs) s.function s.room
          (tick (x.entry).line >> given_if x.constructs (body (s.context).program (suc s.depth) x.entry)) n) many
          (subst (λ (t : Bool). Enters s.setting (Entering s.context (suc s.depth) s.env s.envs) s.function s.room
          (tick (x.entry).line >> given_if t (body (s.context).program (suc s.depth) x.entry)) (length (s.env).locals))
          (sym constructs_x)
          (frame_does begun last line parameters fields stmts constructs w s scene result x.entry sound line_x
          fields_x body_x
          (λ is. nothing (constructs_x ∙ is)) stands suits (many ∙ many_x)));
    }
