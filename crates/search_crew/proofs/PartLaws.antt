-- Types that may cross threads, since their parts may.
use denote.RattleType.{RattleType}
use denote.Param.SendFields.{declared_send, declared_sync, variants_send, variants_sync}
use denote.Param.Send.{IsSend, IsSync, sendable, view_send, view_sync}
use Rattle.std.proofs.Crossing.{Vec-send, Vec-sync, Arc-send, Arc-sync, crosses}
use Rattle.oz_base.specs.contracts.names.SpaceName as name
use Rattle.std.specs.contracts.option.Option as option
use Rattle.oz_base.specs.contracts.names.Ident as ident
use Rattle.oz_base.specs.contracts.interval.Interval as interval
use Rattle.oz_base.specs.contracts.sequence.Sequence as sequence
use Rattle.oz_base.specs.contracts.shared.Shared as shared
use Rattle.oz_language.specs.contracts.kernel.Kernel as kernel
use Rattle.oz_semantics.specs.contracts.value.Value as value
use Rattle.oz_semantics.specs.contracts.value.Tell as told
use Rattle.oz_semantics.specs.contracts.configuration.Status as status
use Rattle.oz_semantics.specs.contracts.configuration.Thread as thread
use Rattle.oz_semantics.specs.contracts.configuration.Trigger as trigger
use Rattle.oz_semantics.specs.contracts.configuration.Propagator as propagator
use Rattle.shared_list.specs.contracts.list.SharedList as list
use Rattle.cells_ports.specs.contracts.objects.Objects as objects
use Rattle.shared_map.proofs.tree.Tree.TheLaws.TheKnot as tree
use Rattle.ident_map.specs.contracts.map.IdentMap as map
use Rattle.fd_domain.specs.contracts.domain.Domain as domain
use Rattle.term_store.specs.contracts.class_domain.ClassDomain as class_domain
use Rattle.term_store.specs.contracts.cell.Kept as kept
use Rattle.term_store.specs.contracts.cell.Cell as cell
use Rattle.term_store.specs.contracts.chunk.Chunk as chunk
use Rattle.term_store.specs.contracts.log.Log as log
use Rattle.term_store.specs.contracts.classes.Classes as classes
use Rattle.term_store.specs.contracts.store.Store as store
use Rattle.watching.specs.contracts.keys.Keys as keys
use Rattle.watching.specs.contracts.watched.Watched as watched
use Rattle.watching.specs.contracts.watch.Watch as watch
use Rattle.suspension.specs.contracts.sleepers.Sleepers as sleepers
use Rattle.space_core.specs.contracts.constraints.Constraints as constraints
use Rattle.space_core.specs.contracts.ended.Ended as ended
use Rattle.space_core.specs.contracts.thread_list.ThreadList as thread_list
use Rattle.space_core.specs.contracts.threads.Threads as threads
use Rattle.space_core.specs.contracts.level.Numbers as numbers
use Rattle.space_core.specs.contracts.level.Level as level
use Rattle.space_core.specs.contracts.levels.Levels as levels
use Rattle.oz_threads.specs.contracts.queue.Queue as queue
use Rattle.oz_sleep.specs.contracts.sleeping.Sleeping as sleeping
use Rattle.oz_machine.specs.contracts.course.Due as due
use Rattle.oz_machine.specs.contracts.course.Course as course
use Rattle.oz_machine.specs.contracts.machine.Machine as machine
use denote.Builtin.{u8, u64, usize}

pub tell_send : IsSend ident.the_row → IsSend value.the_row → IsSend (sequence.the_row interval.the_row) → IsSend told.the_row
tell_send i v d = variants_send told.enum ((i, (i, tt)), ((i, (v, tt)), ((i, (d, tt)), tt)))

pub tell_sync : IsSync ident.the_row → IsSync value.the_row → IsSync (sequence.the_row interval.the_row) → IsSync told.the_row
tell_sync i v d = variants_sync told.enum ((i, (i, tt)), ((i, (v, tt)), ((i, (d, tt)), tt)))

-- ---- maps, whose nodes hold one another
map_send : (T : RattleType) → IsSend T → IsSync T → IsSend (map.the_row T)
map_send T s y = search (crosses, tree.crosses_both, sendable) depth 60 fits 20000

map_sync : (T : RattleType) → IsSend T → IsSync T → IsSync (map.the_row T)
map_sync T s y = search (crosses, tree.crosses_both, sendable) depth 60 fits 20000

-- ---- what a store keeps of a class
pub class_domain_send : IsSend domain.the_row → IsSend (option.the_row value.the_row) → IsSend class_domain.the_row
class_domain_send d v = view_send _ _ _ _ _ (declared_send class_domain.TheInside.the_type (d, (v, tt)))

pub class_domain_sync : IsSync domain.the_row → IsSync (option.the_row value.the_row) → IsSync class_domain.the_row
class_domain_sync d v = view_sync _ _ _ _ _ (declared_sync class_domain.TheInside.the_type (d, (v, tt)))

number_send : IsSend (option.the_row u64)
number_send = variants_send (option.enum u64) (tt, ((search sendable, tt), tt))

number_sync : IsSync (option.the_row u64)
number_sync = variants_sync (option.enum u64) (tt, ((search sendable, tt), tt))

shared_send : IsSend class_domain.the_row → IsSync class_domain.the_row → IsSend (shared.the_row class_domain.the_row)
shared_send s y = view_send _ _ _ _ _ (declared_send (shared.TheInside.the_type class_domain.the_row) (Arc-send class_domain.the_row s y, tt))

shared_sync : IsSend class_domain.the_row → IsSync class_domain.the_row → IsSync (shared.the_row class_domain.the_row)
shared_sync s y = view_sync _ _ _ _ _ (declared_sync (shared.TheInside.the_type class_domain.the_row) (Arc-sync class_domain.the_row s y, tt))

kept_send : IsSend class_domain.the_row → IsSync class_domain.the_row → IsSend kept.the_row
kept_send s y = declared_send kept.the_type (number_send, (variants_send (option.enum (shared.the_row class_domain.the_row)) (tt, ((shared_send s y, tt), tt)), tt))

kept_sync : IsSend class_domain.the_row → IsSync class_domain.the_row → IsSync kept.the_row
kept_sync s y = declared_sync kept.the_type (number_sync, (variants_sync (option.enum (shared.the_row class_domain.the_row)) (tt, ((shared_sync s y, tt), tt)), tt))

pub cell_send : IsSend ident.the_row → IsSend class_domain.the_row → IsSync class_domain.the_row → IsSend cell.the_row
cell_send i s y = variants_send cell.enum ((i, (search sendable, tt)), ((search sendable, (kept_send s y, tt)), tt))

pub cell_sync : IsSync ident.the_row → IsSend class_domain.the_row → IsSync class_domain.the_row → IsSync cell.the_row
cell_sync i s y = variants_sync cell.enum ((i, (search sendable, tt)), ((search sendable, (kept_sync s y, tt)), tt))

pub classes_send : IsSend cell.the_row → IsSync cell.the_row → IsSend classes.the_row
classes_send s y = view_send _ _ _ _ _ (declared_send classes.TheInside.the_type (map_send cell.the_row s y, tt))

pub classes_sync : IsSend cell.the_row → IsSync cell.the_row → IsSync classes.the_row
classes_sync s y = view_sync _ _ _ _ _ (declared_sync classes.TheInside.the_type (map_sync cell.the_row s y, tt))

-- ---- what a store was told
list_send : (T : RattleType) → IsSend T → IsSync T → IsSend (list.the_row T)
list_send T s y = search (crosses, tree.crosses_both, sendable) depth 60 fits 20000

list_sync : (T : RattleType) → IsSend T → IsSync T → IsSync (list.the_row T)
list_sync T s y = search (crosses, tree.crosses_both, sendable) depth 60 fits 20000

chunk_send : IsSend told.the_row → IsSync told.the_row → IsSend chunk.the_row
chunk_send s y = view_send _ _ _ _ _ (declared_send chunk.TheInside.the_type (Arc-send _ (Vec-send told.the_row s) (Vec-sync told.the_row y), tt))

chunk_sync : IsSend told.the_row → IsSync told.the_row → IsSync chunk.the_row
chunk_sync s y = view_sync _ _ _ _ _ (declared_sync chunk.TheInside.the_type (Arc-sync _ (Vec-send told.the_row s) (Vec-sync told.the_row y), tt))

log_send : IsSend told.the_row → IsSync told.the_row → IsSend log.the_row
log_send s y =
    let one : IsSend chunk.the_row = chunk_send s y in
    view_send _ _ _ _ _
    (declared_send log.TheInside.the_type (list_send chunk.the_row one (chunk_sync s y), (variants_send (option.enum chunk.the_row) (tt, ((one, tt), tt)), (Vec-send told.the_row s, (search sendable, tt)))))

log_sync : IsSend told.the_row → IsSync told.the_row → IsSync log.the_row
log_sync s y =
    let one : IsSync chunk.the_row = chunk_sync s y in
    view_sync _ _ _ _ _
    (declared_sync log.TheInside.the_type (list_sync chunk.the_row (chunk_send s y) one, (variants_sync (option.enum chunk.the_row) (tt, ((one, tt), tt)), (Vec-sync told.the_row y, (search sendable, tt)))))

pub store_send : IsSend told.the_row → IsSync told.the_row → IsSend classes.the_row → IsSend store.the_row
store_send s y c = view_send _ _ _ _ _ (declared_send store.TheInside.the_type (log_send s y, (c, tt)))

pub store_sync : IsSend told.the_row → IsSync told.the_row → IsSync classes.the_row → IsSync store.the_row
store_sync s y c = view_sync _ _ _ _ _ (declared_sync store.TheInside.the_type (log_sync s y, (c, tt)))

-- ---- the parts of a machine
due_send : IsSend ident.the_row → IsSend (option.the_row ident.the_row) → IsSend (sequence.the_row u64) → IsSend due.the_row
due_send i o w = variants_send due.enum (tt, ((i, (o, tt)), ((i, (w, tt)), ((o, tt), tt))))

due_sync : IsSync ident.the_row → IsSync (option.the_row ident.the_row) → IsSync (sequence.the_row u64) → IsSync due.the_row
due_sync i o w = variants_sync due.enum (tt, ((i, (o, tt)), ((i, (w, tt)), ((o, tt), tt))))

ended_send : IsSend ended.the_row
ended_send = variants_send ended.enum (tt, ((search sendable, tt), (tt, tt)))

ended_sync : IsSync ended.the_row
ended_sync = variants_sync ended.enum (tt, ((search sendable, tt), (tt, tt)))

thread_list_send : IsSend thread.the_row → IsSend thread_list.the_row
thread_list_send t = view_send _ _ _ _ _ (declared_send thread_list.TheInside.the_type (Vec-send thread.the_row t, (search sendable, tt)))

thread_list_sync : IsSync thread.the_row → IsSync thread_list.the_row
thread_list_sync t = view_sync _ _ _ _ _ (declared_sync thread_list.TheInside.the_type (Vec-sync thread.the_row t, (search sendable, tt)))

threads_send : IsSend thread.the_row → IsSend threads.the_row
threads_send t = view_send _ _ _ _ _ (declared_send threads.TheInside.the_type (thread_list_send t, (search sendable, (ended_send, tt))))

threads_sync : IsSync thread.the_row → IsSync threads.the_row
threads_sync t = view_sync _ _ _ _ _ (declared_sync threads.TheInside.the_type (thread_list_sync t, (search sendable, (ended_sync, tt))))

pub objects_send : IsSend (list.the_row ident.the_row) → IsSend objects.the_row
objects_send l = view_send _ _ _ _ _ (declared_send objects.TheInside.the_type (l, (l, tt)))

pub objects_sync : IsSync (list.the_row ident.the_row) → IsSync objects.the_row
objects_sync l = view_sync _ _ _ _ _ (declared_sync objects.TheInside.the_type (l, (l, tt)))

numbers_send : IsSend numbers.the_row
numbers_send = declared_send numbers.the_type (search sendable, (search sendable, (search sendable, (search sendable, tt))))

numbers_sync : IsSync numbers.the_row
numbers_sync = declared_sync numbers.the_type (search sendable, (search sendable, (search sendable, (search sendable, tt))))

-- which propagators may be due
keys_send : IsSend (list.the_row ident.the_row) → IsSend (list.the_row usize) → IsSync (list.the_row usize) → IsSend keys.the_row
keys_send i s y = declared_send keys.the_type (i, (map_send (list.the_row usize) s y, tt))

keys_sync : IsSync (list.the_row ident.the_row) → IsSend (list.the_row usize) → IsSync (list.the_row usize) → IsSync keys.the_row
keys_sync i s y = declared_sync keys.the_type (i, (map_sync (list.the_row usize) s y, tt))

pub watch_send : IsSend (list.the_row ident.the_row) → IsSend (list.the_row usize) → IsSync (list.the_row usize) → IsSend (sequence.the_row usize) → IsSend watch.the_row
watch_send i s y d = declared_send watch.the_type (declared_send watched.the_type (keys_send i s y, (d, tt)), (search sendable, tt))

pub watch_sync : IsSync (list.the_row ident.the_row) → IsSend (list.the_row usize) → IsSync (list.the_row usize) → IsSync (sequence.the_row usize) → IsSync watch.the_row
watch_sync i s y d = declared_sync watch.the_type (declared_sync watched.the_type (keys_sync i s y, (d, tt)), (search sendable, tt))

-- which threads sleep
pub sleepers_send : IsSend (list.the_row ident.the_row) → IsSend (list.the_row u64) → IsSync (list.the_row u64) → IsSend sleepers.the_row
sleepers_send i s y = declared_send sleepers.the_type (i, (map_send (list.the_row u64) s y, (search sendable, tt)))

pub sleepers_sync : IsSync (list.the_row ident.the_row) → IsSend (list.the_row u64) → IsSync (list.the_row u64) → IsSync sleepers.the_row
sleepers_sync i s y = declared_sync sleepers.the_type (i, (map_sync (list.the_row u64) s y, (search sendable, tt)))

pub sleeping_send : IsSend name.the_row → IsSend sleepers.the_row → IsSend sleeping.the_row
sleeping_send n s = declared_send sleeping.the_type (n, (s, (search sendable, (search sendable, (search sendable, tt)))))

pub sleeping_sync : IsSync name.the_row → IsSync sleepers.the_row → IsSync sleeping.the_row
sleeping_sync n s = declared_sync sleeping.the_type (n, (s, (search sendable, (search sendable, (search sendable, tt)))))

pub constraints_send : IsSend ident.the_row → IsSend store.the_row → IsSend (sequence.the_row propagator.the_row) → IsSend watch.the_row → IsSend constraints.the_row
constraints_send i s p w = view_send _ _ _ _ _ (declared_send constraints.TheInside.the_type (s, (p, (w, (search sendable, (Vec-send ident.the_row i, tt))))))

pub constraints_sync : IsSync ident.the_row → IsSync store.the_row → IsSync (sequence.the_row propagator.the_row) → IsSync watch.the_row → IsSync constraints.the_row
constraints_sync i s p w = view_sync _ _ _ _ _ (declared_sync constraints.TheInside.the_type (s, (p, (w, (search sendable, (Vec-sync ident.the_row i, tt))))))

level_send : IsSend name.the_row → IsSend status.the_row → IsSend constraints.the_row → IsSend (sequence.the_row ident.the_row) → IsSend thread.the_row → IsSend (sequence.the_row trigger.the_row) → IsSend objects.the_row → IsSend level.the_row
level_send s t c i h q o = declared_send level.the_type (s, (t, (c, (search sendable, (i, (threads_send h, (q, (o, (numbers_send, (search sendable, (search sendable, (search sendable, tt))))))))))))

level_sync : IsSync name.the_row → IsSync status.the_row → IsSync constraints.the_row → IsSync (sequence.the_row ident.the_row) → IsSync thread.the_row → IsSync (sequence.the_row trigger.the_row) → IsSync objects.the_row → IsSync level.the_row
level_sync s t c i h q o = declared_sync level.the_type (s, (t, (c, (search sendable, (i, (threads_sync h, (q, (o, (numbers_sync, (search sendable, (search sendable, (search sendable, tt))))))))))))

pub levels_send : IsSend name.the_row → IsSend status.the_row → IsSend constraints.the_row → IsSend (sequence.the_row ident.the_row) → IsSend thread.the_row → IsSend (sequence.the_row trigger.the_row) → IsSend objects.the_row → IsSend levels.the_row
levels_send s t c i h q o = view_send _ _ _ _ _ (declared_send levels.TheInside.the_type (Vec-send level.the_row (level_send s t c i h q o), tt))

pub levels_sync : IsSync name.the_row → IsSync status.the_row → IsSync constraints.the_row → IsSync (sequence.the_row ident.the_row) → IsSync thread.the_row → IsSync (sequence.the_row trigger.the_row) → IsSync objects.the_row → IsSync levels.the_row
levels_sync s t c i h q o = view_sync _ _ _ _ _ (declared_sync levels.TheInside.the_type (Vec-sync level.the_row (level_sync s t c i h q o), tt))

pub machine_send : IsSend (shared.the_row kernel.the_row) → IsSend levels.the_row → IsSend queue.the_row → IsSend ident.the_row → IsSend (option.the_row ident.the_row) → IsSend (sequence.the_row u64) → IsSend (list.the_row (sequence.the_row u8)) → IsSend sleeping.the_row → IsSend machine.the_row
machine_send k l q i o w s z = view_send _ _ _ _ _ (declared_send machine.TheInside.the_type (k, (declared_send course.the_type (l, (q, (due_send i o w, (s, tt)))), (search sendable, (z, tt)))))

pub machine_sync : IsSync (shared.the_row kernel.the_row) → IsSync levels.the_row → IsSync queue.the_row → IsSync ident.the_row → IsSync (option.the_row ident.the_row) → IsSync (sequence.the_row u64) → IsSync (list.the_row (sequence.the_row u8)) → IsSync sleeping.the_row → IsSync machine.the_row
machine_sync k l q i o w s z = view_sync _ _ _ _ _ (declared_sync machine.TheInside.the_type (k, (declared_sync course.the_type (l, (q, (due_sync i o w, (s, tt)))), (search sendable, (z, tt)))))
