-- A desk may be shared by threads: what is under its lock may go from one to another.
use denote.RattleType.{RattleType}
use mathlib.Core.Bool.{Bool, true, false}
use denote.Exit.{Exit, if_kept, unseen}
use denote.Param.Send.{Quiet, IsSend, IsSync, sendable, recorded_send, struct_send, struct_sync_at, enum_send, view_send}
use denote.Struct.Struct.{Struct}
use denote.Enum.Enum.{Enum}
use denote.Struct.Declared as structs
use denote.Enum.Declared as enums
use Rattle.pc_terms.specs.contracts.types.Ty as ty
use Rattle.pc_terms.specs.contracts.symbols.SymPath as path
use Rattle.pc_terms.proofs.types.Ty.TheLaws.TheKnot as laws
use Rattle.pc_terms.proofs.symbols.SymPath.TheSendSync as path_crosses
use Rattle.pc_terms.proofs.symbols.SymStep.TheSendSync as step_crosses
use Rattle.pc_terms.proofs.row.Row.TheSendSync as row_crosses
use Rattle.pc_terms.proofs.text.Text.TheSendSync as text_crosses
use Rattle.pc_terms.proofs.problems.Problem.TheSendSync as problem_crosses
use Rattle.sqlite_items.proofs.boxed.Boxed.TheSendSync as boxed_crosses
use Rattle.pc_terms.specs.contracts.tree_kinds.TreeKind as kind
use Rattle.pc_terms.specs.contracts.symbols.SymKind as symbol_kind
use Rattle.pc_terms.specs.contracts.problems.Span as span
use Rattle.pc_terms.specs.contracts.problems.Problem as problem
use Rattle.ask_history.specs.contracts.answers.ScopeInfo as scope
use Rattle.ask_history.specs.contracts.answers.OutlineInfo as outline
use Rattle.response_cell.specs.contracts.cells.Cell as cell
use Rattle.std.proofs.Crossing.{Vec-send, crosses}
use Rattle.response_cell.specs.contracts.cells.Cells as cells
use Rattle.response_cell.specs.contracts.cells.Cells.TheInside as inside
use Rattle.work_queue.proofs.queue.Queue.TheSendSync as queue_crosses
use Rattle.counting_word.specs.declared.seat.Room.{Ghosts}
use Rattle.counting_word.proofs.seat.Seat.TheSendSync as seat_crosses
use Rattle.counting_word.proofs.seat.Counter.TheSendSync as counter_crosses
use Rattle.std.specs.contracts.sync.Mutex as mutex
use Rattle.std.specs.contracts.sync.Condvar as condvar
use Rattle.ask_desk.specs.contracts.books.Books as books
use Rattle.ask_desk.specs.contracts.locked.Locked as locked
use Rattle.ask_desk.specs.contracts.locked.Locked.TheInside as under
use Rattle.ask_desk.specs.contracts.desk.Desk as desk
use Rattle.ask_history.specs.contracts.answers.Answer as answer
use Rattle.ask_history.specs.contracts.answers.TreeInfo as tree
use Rattle.ask_history.specs.contracts.answers.MemberInfo as member
use Rattle.ask_history.proofs.answers.ScopeInfo.TheSendSync as scope_crosses
use Rattle.ask_history.proofs.answers.OutlineInfo.TheSendSync as outline_crosses

path_send : IsSend (path.the_field).row
path_send = search (struct_send, row_crosses.the_send, step_crosses.the_send) depth 8

ty_send : IsSend (ty.the_field).row
ty_send =
    laws.send-Ty path_send (λ h s. row_crosses.the_send h s) (λ h s. boxed_crosses.the_send h s) (row_crosses.the_send path.the_row path_crosses.the_send)
    text_crosses.the_send (search sendable)

type_send : IsSend ty.the_row
type_send = search (recorded_send, ty_send)

kind_send : IsSend (kind.the_field).row
kind_send = search enum_send depth 200 fits 100000

symbol_kind_send : IsSend (symbol_kind.the_field).row
symbol_kind_send = search enum_send depth 100

span_send : IsSend (span.the_field).row
span_send = search (sendable) depth 12

tree_send : IsSend (tree.the_field).row
tree_send =
    struct_send (structs.shape tree.the_type)
    (kind_send, (span_send, (search (enum_send, type_send) depth 8, (search (enum_send, path_crosses.the_send) depth 8, tt))))

tree_row_send : IsSend tree.the_row
tree_row_send = search (recorded_send, tree_send)

member_send : IsSend (member.the_field).row
member_send = struct_send (structs.shape member.the_type) (text_crosses.the_send, (symbol_kind_send, (ty_send, (path_send, tt))))

member_row_send : IsSend member.the_row
member_row_send = search (recorded_send, member_send)

pub answer_send : IsSend (answer.the_field).row
answer_send =
    enum_send (enums.shape answer.the_type) (
      tt,
      (
        (tree_send, tt),
        (
          (row_crosses.the_send member.the_row member_row_send, tt),
          (
            (row_crosses.the_send scope.the_row scope_crosses.the_send, tt),
            (
              (text_crosses.the_send, (span_send, (path_send, tt))),
              (
                (row_crosses.the_send outline.the_row outline_crosses.the_send, tt),
                (
                  (row_crosses.the_send tree.the_row tree_row_send, (row_crosses.the_send problem.the_row problem_crosses.the_send, tt)),
                  (tt, (tt, (tt, (tt, (tt, (tt, (tt, (tt, tt)))))))),
                ),
              ),
            ),
          ),
        ),
      ),
    )

pub cell_send : IsSend (cell.the_field).row
cell_send = enum_send (enums.shape cell.the_type) (tt, ((answer_send, tt), (tt, tt)))

pub cell_row_send : IsSend cell.the_row
cell_row_send = search (recorded_send, cell_send)

inside_send : IsSend (Struct (structs.shape inside.the_type))
inside_send = struct_send (structs.shape inside.the_type) (Vec-send cell.the_row cell_row_send, tt)

cells_send : IsSend cells.the_row
cells_send = search (view_send, recorded_send, inside_send) depth 6

-- ---- the desk

books_send : IsSend (books.the_field).row
books_send = struct_send (structs.shape books.the_type) (queue_crosses.the_send, (cells_send, tt))

module _ (B : RattleType) (room : Ghosts B.Denot) (send : IsSend B) (sync : IsSync B) where
  locked_inside : IsSend (Struct (structs.shape (under.the_type B room)))
  locked_inside = struct_send (structs.shape (under.the_type B room)) (books_send, (search seat_crosses.the_send depth 4, tt))

  pub locked_send : IsSend (locked.the_row B room)
  locked_send = search (view_send, recorded_send, locked_inside) depth 6

  mutex_sync : IsSync (mutex.the_field (locked.the_row B room)).row
  mutex_sync = search (crosses, locked_send) depth 10

  condvar_sync : IsSync (condvar.the_field).row
  condvar_sync = search (crosses, sendable) depth 12

  pub desk_sync : IsSync (desk.the_row B room)
  desk_sync = record {
    shared = λ d.
        struct_sync_at (structs.shape (desk.the_type B room)) ((desk.the_type B room).to d)
        ((counter_crosses.the_sync B room).shared d.counter, (mutex_sync.shared _, (condvar_sync.shared _, (condvar_sync.shared _, tt))));
  }

-- ---- closures

-- What a closure leaves behind, where it is passed on as a type parameter.
pub leaving_if : {D : Type 0} (b : Bool) (e : Exit D) → Quiet e → Quiet (if_kept b e unseen)
leaving_if true e quiet = quiet
leaving_if false e quiet = λ d w. tt
